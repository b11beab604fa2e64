pub mod Accepted
pub mod AnyEnabled
pub mod Names
