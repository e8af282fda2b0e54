-- amounts: one, the sum of many, and that of a set of blocks
pub mod Amount
pub mod Sums
pub mod Block
pub mod Sets
-- the laws of an ordered group
pub mod Laws
-- the words for the kinds of amount
pub mod Group
-- proofs that implementations cite as their laws
pub mod LawProofs
pub mod ScaledProofs
-- the names of all of them
pub mod Prelude
