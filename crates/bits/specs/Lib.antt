pub mod Digit
pub mod Writes
