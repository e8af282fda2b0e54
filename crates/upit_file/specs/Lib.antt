-- what a text says: its header, and the records after it; and how faults print
pub mod Records
pub mod Header
pub mod Body
-- records that are read by themselves
pub mod Parts
-- how it is written, and that it reads back
pub mod Writing
-- the names of all of them
pub mod Prelude
