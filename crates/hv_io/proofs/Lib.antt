pub mod Buffering
pub mod Putting
