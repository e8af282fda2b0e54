-- parts of a mine, and what bounds its best pit
pub mod Parts
-- a part with block numbers of its own
pub mod Renumbered
-- the laws of best pits that are found in parts
pub mod Laws
-- for this crate alone: pairs as they are gathered
pub mod Among
-- who precedes whom among some blocks of a grid
pub mod AmongGrids
-- the names of all of them
pub mod Prelude
