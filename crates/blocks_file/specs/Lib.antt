pub mod Records
pub mod Denotes
pub mod RowReading
-- the names of all of them
pub mod Prelude
