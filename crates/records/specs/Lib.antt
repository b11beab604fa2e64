pub mod Ascii
pub mod Rows
pub mod Records
pub mod Table
pub mod Bytes
