pub mod Typed
pub mod Laws
