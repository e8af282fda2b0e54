-- a series that is settled, and the rows of its pits
pub mod ShellTable
pub mod SettledSeries
-- for this crate alone: the pits at the factors, and parts of the mine between two pits
pub mod PitsAtFactors
pub mod Parting
-- the names of all of them
pub mod Prelude
