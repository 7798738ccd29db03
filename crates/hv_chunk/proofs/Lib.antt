pub mod Packing
pub mod Growing
pub mod Keeping
pub mod Standing
