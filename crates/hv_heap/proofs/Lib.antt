pub mod Begun
pub mod Placing
pub mod Moving
