pub mod Counter
pub mod Hold
pub mod ClosedForm
