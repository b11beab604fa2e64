pub mod MapText
pub mod InLine
