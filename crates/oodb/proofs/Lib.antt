pub mod CausedBack
pub mod Reporting
pub mod FirstTrees
pub mod Names
pub mod Running
pub mod FirstScript
pub mod Statuses
pub mod OverMemory
