-- states and operations, and what is left of the network
pub mod States
pub mod Operations
pub mod Residual
-- a step, and runs: by a block's operation, and by the kind of step
pub mod Reads
pub mod Steps
pub mod Table
-- what holds of a state: its amounts, what is on its way, its balances and labels
pub mod Amounts
pub mod Transit
pub mod Balances
pub mod Labels
-- the laws of a step, of a run and of a quiet state
pub mod Law
pub mod Conservation
pub mod Quiet
-- how kinds of step print
pub mod KindText
-- the names of all of them
pub mod Prelude
