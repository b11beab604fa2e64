pub mod Accepted
pub mod AtOnce
pub mod Table
