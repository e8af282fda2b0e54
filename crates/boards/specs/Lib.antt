-- a board, and the runs that its turns make
pub mod Runs
pub mod Boards
-- one turn, and how turns end a run
pub mod Turns
pub mod Ends
-- boards with a history of their steps
pub mod Records
pub mod Audits
-- the names of all of them
pub mod Prelude
