-- which block rests on which
pub mod Slopes
-- how faults print
pub mod FaultText
-- for this crate alone: lists as they are gathered
pub mod Gathering
-- the names of all of them
pub mod Prelude
