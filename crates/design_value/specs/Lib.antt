pub mod Sums
pub mod OpenPairs
-- for this crate alone: the pairs of a block, as they are gathered
pub mod Reached
-- the names of all of them
pub mod Prelude
