pub mod BlockByBlock
pub mod PairByPair
pub mod Feasible
pub mod Sums
