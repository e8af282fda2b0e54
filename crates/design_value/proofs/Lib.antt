pub mod Leading
pub mod BlockPairs
