pub mod Blocks
pub mod Answer
pub mod FadtBlocks
pub mod Rules
pub mod Legal
pub mod Fitted
