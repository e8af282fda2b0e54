-- The names of this crate that its proofs and the crates above it use, each from its own file.
pub use Rattle.design_value.specs.OpenPairs.{AreOpen, leads_out, most_open_told, open_pairs}
pub use Rattle.design_value.specs.Sums.{SumLeaves, marked_in, worth_listed}
