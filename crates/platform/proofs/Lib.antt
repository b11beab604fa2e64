pub mod Ports
pub mod Overlap
pub mod Answers
pub mod FadtOrder
pub mod Legal
