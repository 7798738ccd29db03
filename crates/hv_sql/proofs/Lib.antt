mod Plain
mod KindLaws
mod KindSets
mod Lawful
mod Sequence
mod Choice
mod Lists
mod RuleLaws
mod OneReading
pub mod Grouped
pub mod Loops
pub mod Answering
pub mod LexingClasses
pub mod LexingFirst
pub mod LexingLaws
pub mod LexingLengths
pub mod LexingNumbers
pub mod LexingQuotes
pub mod LexingSorts
pub mod LexingSteps
pub mod LexingWords
pub mod Standing
pub mod Names
mod Boundary
mod Cut
mod Spelt
pub mod Completing
pub mod WordLengths
pub mod Marks
