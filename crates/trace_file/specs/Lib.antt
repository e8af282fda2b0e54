-- the text of a trace: one line, all lines, and that it reads back
pub mod Lines
pub mod Written
pub mod ReadBack
-- what is wrong with a text, and how that prints
pub mod Faults
-- the names of all of them
pub mod Prelude
