pub mod Runs
pub mod Solving
pub mod Auditing
-- the names of all of them
pub mod Prelude
