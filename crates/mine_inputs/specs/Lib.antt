-- the mine that texts denote
pub mod Mines
pub mod PricedTexts
pub mod BlockTexts
pub mod SlopedTexts
pub mod Limits
-- a mine as devices, and as it was read
pub mod MineInputs
pub mod ReadMines
pub mod Worths
-- the ways to treat its blocks
pub mod Ways
-- what reading each input gives, and when it answers a fault
pub mod Inputs
pub mod FaultStands
-- the names of all of them
pub mod Prelude
