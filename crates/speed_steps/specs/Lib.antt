pub mod Rows
pub mod SetUps
