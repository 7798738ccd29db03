pub mod Value
pub mod Schema
pub mod Row
pub mod Spelling
pub mod Packed
