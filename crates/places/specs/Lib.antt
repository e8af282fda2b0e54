-- who precedes whom, whoever holds it
pub mod Ways
-- the list of pairs that this denotes
pub mod Implied
-- numbers of cells in a padded box
pub mod Grids
-- the cells of places and offsets
pub mod Boxes
-- who rests on whom by places and offsets
pub mod Placed
-- the region of each block
pub mod Regions
-- blocks in periods
pub mod Nodes
-- a list or a grid, whichever a mine has
pub mod Held
-- what nodes are made of
pub mod Timed
-- either, or nodes, lent
pub mod Holders
-- the names of all of them
pub mod Prelude
