-- the pairs of a mine
pub mod Rests
-- the text of them: what it says, how it is written, and that it reads back
pub mod Records
pub mod Written
-- faults, and how they print
pub mod Faults
-- for this crate alone: the indexes as they are built
pub mod Indexes
pub mod Parts
-- the names of all of them
pub mod Prelude
