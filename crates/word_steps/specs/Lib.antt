-- where the numbers of a state lie among the words
pub mod Layout
-- a step on a word, and what a seat sees of the state
pub mod StepWords
pub mod Views
pub mod Turns
pub mod Halves
pub mod SeatSteps
-- the names of all of them
pub mod Prelude
