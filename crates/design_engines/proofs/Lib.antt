pub mod Closed
pub mod Designed
pub mod Answered
pub mod Compared
pub mod ComparedAnswers
pub mod BesideStreams
