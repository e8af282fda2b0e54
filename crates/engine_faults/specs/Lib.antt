-- the faults of what engines stand on as theirs, and how a problem prints
pub mod EngineFaults
-- the names of all of them
pub mod Prelude
