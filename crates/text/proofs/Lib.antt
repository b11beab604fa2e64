pub mod Stores
pub mod Digits
pub mod Fewest
pub mod Turns
pub mod Cuts
pub mod Lines
pub mod Equal
pub mod Values
