-- what a text says as settings, by its keys and their values; and how faults print
pub mod Settings
pub mod Keys
pub mod Values
-- for this crate alone: what is wrong with a table
pub mod GoodTables
-- the names of all of them
pub mod Prelude
