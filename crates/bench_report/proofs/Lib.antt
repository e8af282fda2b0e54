pub mod Lines
pub mod Plain
pub mod Sums
pub mod Tables
pub mod OneTable
pub mod Tallies
pub mod Ways
pub mod WayLines
