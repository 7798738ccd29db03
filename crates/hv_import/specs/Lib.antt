pub mod Rows
pub mod Job
