pub mod Falling
pub mod WayNodes
pub mod Bounded
pub mod Within
pub mod PitsTold
pub mod Answered
pub mod MostWorth
