-- the mine of a series, by texts and by devices
pub mod SeriesTexts
pub mod Devices
-- `shells`: its tables, and how the engine ends
pub mod BlockTables
pub mod Answering
pub mod Shells
-- what the functions of the engine say to one another
pub mod SeriesAnswers
-- the names of all of them
pub mod Prelude
