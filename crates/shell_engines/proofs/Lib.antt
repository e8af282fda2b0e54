pub mod Readings
pub mod Lifted
pub mod FirstShell
pub mod BlockTables
pub mod OneTable
pub mod Answering
pub mod Answers
