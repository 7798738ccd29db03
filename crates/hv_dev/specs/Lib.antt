pub mod Reading
pub mod Fault
pub mod Past
pub mod Reads
pub mod Files
