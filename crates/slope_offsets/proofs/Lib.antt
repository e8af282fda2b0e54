pub mod Gathering
pub mod OffsetSorting
pub mod Distances
pub mod ConeSteps
pub mod OffsetFinding
pub mod FirstSteps
