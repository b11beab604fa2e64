pub mod Platform
pub mod Rows
