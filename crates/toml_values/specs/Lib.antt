-- a text as a document, and a value as a number
pub mod Documents
pub mod Numbers
-- the names of both
pub mod Prelude
