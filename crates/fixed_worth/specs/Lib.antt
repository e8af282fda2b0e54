-- lines and fields, and the records of a text
pub mod Text
pub mod Record
-- numbers as texts: read, rounded and printed
pub mod Numeral
pub mod Decimal
pub mod Printed
-- laws of lines, fields and numbers
pub mod Laws
-- how faults print
pub mod FaultText
-- for this crate alone: what stands first in a text
pub mod Front
-- the names of all of them
pub mod Prelude
