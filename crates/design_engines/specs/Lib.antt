-- what is told of a design
pub mod Designs
pub mod Values
-- a design beside the best pit
pub mod Comparisons
pub mod Compares
-- the text of a design, and how a fault of it prints
pub mod DesignTexts
pub mod FaultText
-- for this crate alone: what the program holds of a design
pub mod Told
-- the names of all of them
pub mod Prelude
