pub mod Numbers
pub mod Values
pub mod Records
pub mod Finishing
