pub mod GapsTold
pub mod ComparedPart
pub mod SchedulesFailing
pub mod KnownWays
