pub mod Digits
pub mod Algebra
pub mod Writes
pub mod Lanes
pub mod Values
