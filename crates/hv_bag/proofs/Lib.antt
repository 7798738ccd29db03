pub mod Bags
pub mod Counts
pub mod Parts
pub mod Orders
mod Compared
