pub mod Key
pub mod Slots
pub mod Moves
pub mod Made
pub mod Shape
pub mod Index
pub mod Order
