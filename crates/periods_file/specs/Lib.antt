-- what a text says as periods, by its keys and their values; and how faults print
pub mod Periods
pub mod Keys
pub mod Values
pub mod ByWay
-- the names of all of them
pub mod Prelude
