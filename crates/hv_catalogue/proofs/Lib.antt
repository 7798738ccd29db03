pub mod Points
pub mod Tables
pub mod Kept
pub mod Steps
pub mod Changes
pub mod Named
