pub mod Beyond
pub mod ByteAlone
