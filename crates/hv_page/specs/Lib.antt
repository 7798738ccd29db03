pub mod Layout
pub mod Heap
pub mod Fault
pub mod Chunk
