pub mod Cause
pub mod Loops
pub mod Grouping
pub mod Laws
pub mod Limits
