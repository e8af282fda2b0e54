-- the devices of what is read beside a mine
pub mod BesideTexts
-- the faults of these texts
pub mod TextFaults
-- the nodes of what was read, and what some of its blocks have of it
pub mod PlannedNodes
-- the line of what is wrong with the nodes
pub mod NodesLines
-- the names of all of them
pub mod Prelude
