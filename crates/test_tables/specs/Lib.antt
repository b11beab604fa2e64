pub mod States
pub mod Tables
