-- the pit to which the mine of nodes is restricted
pub mod Pits
-- what a bound over texts is
pub mod Bounded
-- the line of a bound, and what is written
pub mod BoundLines
-- how the certificate of a pit is judged, and what the pit's blocks have of what was read
pub mod Parts
-- the names of all of them
pub mod Prelude
