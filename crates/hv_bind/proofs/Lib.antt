pub mod Fitting
pub mod Refusing
pub mod Standing
pub mod Steps
