pub mod Next
pub mod Laws
pub mod Code
pub mod Answer
pub mod Completion
pub mod Words
pub mod Marks
