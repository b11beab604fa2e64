pub mod Clock
pub mod AtOnce
