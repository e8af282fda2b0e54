-- which pairs a schedule breaks
pub mod Breaking
-- where it uses more than there is
pub mod Overuse
-- how large its sums are
pub mod Bounds
-- all that it comes to
pub mod Judging
-- the names of all of them
pub mod Prelude
