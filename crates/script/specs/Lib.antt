pub mod Words
pub mod Fields
pub mod StepLine
pub mod PlatformLine
