pub mod Runs
pub mod Fit
pub mod Moved
pub mod Example
