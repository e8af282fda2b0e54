pub mod Columns
pub mod SameBlocks
pub mod SmallSums
pub mod WayColumns
pub mod Readings
pub mod Tables
pub mod Answers
