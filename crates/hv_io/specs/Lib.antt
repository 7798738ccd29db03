pub mod Bytes
pub mod Counts
pub mod Printing
pub mod Putting
pub mod Seen
