pub mod Bits
pub mod Fadt
