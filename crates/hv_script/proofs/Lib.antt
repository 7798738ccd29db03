mod Always
mod Behind
mod Choosing
mod Front
mod LineCount
pub mod Names
pub mod Once
mod Parts
mod SoFar
mod Source
mod Taken
mod TextEnd
