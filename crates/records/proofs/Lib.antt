pub mod RowFacts
pub mod Turns
pub mod Said
pub mod Small
pub mod ReadBack
pub mod ByteLaws
pub mod Values
