-- a state, and marks for sets of its blocks
pub mod Marks
pub mod Views
-- what a step changes and answers
pub mod Changes
pub mod Answers
pub mod Scans
-- how faults print
pub mod FaultText
-- the names of all of them
pub mod Prelude
