-- patterns, as offsets from a block
pub mod Patterns
pub mod Offsets
-- how faults print
pub mod FaultText
-- for this crate alone: lists as they are gathered
pub mod Lists
pub mod Gathering
-- the names of all of them
pub mod Prelude
