-- what nodes are worth, and the pairs of one
pub mod Nodes
-- the same where blocks wait for others
pub mod Waiting
-- the pairs and worths of the expanded mine, as lists
pub mod Lists
-- what a bound is
pub mod Bounds
-- the names of all of them
pub mod Prelude
