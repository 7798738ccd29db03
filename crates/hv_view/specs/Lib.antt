pub mod View
pub mod Known
