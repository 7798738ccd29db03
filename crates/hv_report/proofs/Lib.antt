mod Decoding
mod Numbers
pub mod Quotes
mod Cells
mod Replies
mod Histories
pub mod PrintedParts
pub mod Whole
pub mod AlikeTexts
