pub mod Counts
pub mod Slots
pub mod Rows
pub mod LineAfterLine
