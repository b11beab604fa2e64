pub mod GpeBytes
