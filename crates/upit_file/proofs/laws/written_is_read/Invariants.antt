use Rattle.fixed_worth.proofs.Common.{ℕ, ℤ, ◌<◌, ◌≤◌, ◌^◌, slice_index_or, unsigned_abs}
use Rattle.upit_file.proofs.laws.written_is_read.Given as goal

abbrev pub invariant-loop-value : goal.invariant-loop-value
invariant-loop-value l = (k : ℕ) (d : ℤ) → k < l.value-index → unsigned_abs (slice_index_or l.values k d) ≤ 10 ^ 18
