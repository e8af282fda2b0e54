pub mod Scheduled
pub mod UsesRead
pub mod TextsBeside
pub mod Lists
pub mod WayUsesRead
pub mod Chosen
pub mod Told
