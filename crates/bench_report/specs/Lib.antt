-- the tables and their texts
pub mod Benches
pub mod Written
pub mod BlockShells
pub mod WayTonnes
-- when there is no table, and how that prints
pub mod Faults
-- for this crate alone: rows as they grow
pub mod GrowingRows
-- the names of all of them
pub mod Prelude
