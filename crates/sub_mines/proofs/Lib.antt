pub mod Parts
pub mod Bounds
pub mod Renumbering
pub mod Kept
pub mod Together
pub mod Rows
pub mod GridParts
