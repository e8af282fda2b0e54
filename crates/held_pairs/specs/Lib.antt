-- the region of each block
pub mod OwnRegions
-- whichever holds pairs
pub mod Kept
-- the list of them, as it is made
pub mod HeldLists
