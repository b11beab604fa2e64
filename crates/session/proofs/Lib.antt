pub mod Cut
pub mod CutScript
pub mod Laws
