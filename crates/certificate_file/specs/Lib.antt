-- the grammar: pieces and words, the header, the lines after it
pub mod Pieces
pub mod Header
pub mod BodyLines
-- the text of a certificate, what it says, and how faults print
pub mod Written
pub mod Certificate
pub mod ReadBack
-- for this crate alone: a pit and a flow while their lines are read
pub mod Gathered
-- the names of all of them
pub mod Prelude
