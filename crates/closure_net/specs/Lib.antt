-- a mine and its best pit, which everything leads to
pub mod Mine
-- a net of it: closed sets, flows, and the order of a block's ports
pub mod Network
pub mod Closure
pub mod Flows
pub mod Ports
-- what the source reaches by a flow, and the search for it
pub mod Reached
pub mod Searches
pub mod Carrying
-- when there is no net, and how that prints
pub mod Faults
-- the names of all of them
pub mod Prelude
