pub mod SlopeAnswers
pub mod Reduced
