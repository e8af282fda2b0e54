pub mod TraceTexts
pub mod Outcomes
pub mod Replays
pub mod Histories
-- the names of all of them
pub mod Prelude
