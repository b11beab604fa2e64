pub mod Fits
pub mod Parts
pub mod Marked
pub mod Theorems
pub mod PortMap
