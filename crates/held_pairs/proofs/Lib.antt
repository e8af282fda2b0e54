pub mod FewWays
pub mod ByRegion
pub mod HeldLists
