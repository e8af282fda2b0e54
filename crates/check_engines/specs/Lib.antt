-- what the texts of a mine and of a certificate denote
pub mod Readings
-- judging a certificate, and `check`
pub mod Judgements
pub mod Refusals
pub mod Judging
pub mod Checking
-- a mine by slopes, and by their pairs
pub mod SlopePairs
-- two certificates over one table of prices
pub mod Nested
-- when there is a fault; lines and exit statuses
pub mod FaultStands
pub mod OutputLines
pub mod Verdicts
pub mod Statuses
-- the names of all of them
pub mod Prelude
