pub mod Fault
pub mod Next
pub mod OneReading
pub mod Reading
pub mod SoFar
pub mod Words
