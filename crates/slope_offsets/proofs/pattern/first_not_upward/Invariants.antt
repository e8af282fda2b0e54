use Rattle.std.proofs.Common.{ℕ, ◌<◌, slice_index_or}
use Rattle.slope_offsets.specs.Offsets.{Offset, IsUpward}
use Rattle.slope_offsets.proofs.pattern.first_not_upward.Given as goal

abbrev pub invariant-loop-i : goal.invariant-loop-i
invariant-loop-i l = (k : ℕ) (d : Offset) → k < l.i → IsUpward (slice_index_or l.listed k d)
