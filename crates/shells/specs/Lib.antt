-- prices, what a table in memory shows of them, and series of nested pits
pub mod Prices
pub mod Shown
pub mod Series
pub mod Nesting
-- how faults print
pub mod FaultText
-- the names of all of them
pub mod Prelude
