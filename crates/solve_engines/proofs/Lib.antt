pub mod SolveAnswered
pub mod Lone
pub mod NetAnswers
pub mod Solutions
pub mod RefusedRuns
pub mod SmallSums
pub mod PlacedAnswers
