pub mod Cause
pub mod Keys
