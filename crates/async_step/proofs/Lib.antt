pub mod Counts
pub mod Gaps
pub mod Changes
pub mod Opens
pub mod Scanning
pub mod Becoming
pub mod Turns
pub mod Waits
