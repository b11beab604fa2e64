pub mod Answer
pub mod Text
pub mod Reading
