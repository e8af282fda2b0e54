-- the production of some of a mine's blocks, and what bounds it
pub mod Parts
-- the names of all of them
pub mod Prelude
