use Rattle.std.proofs.Common.{ℕ, ◌<◌, slice_index_or}
use Rattle.slope_offsets.specs.Offsets.{Offset, IsUpward}
use Rattle.held_pairs.proofs.offsets.all_upward.Given as goal

abbrev pub invariant-loop-offset : goal.invariant-loop-offset
invariant-loop-offset l = (k : ℕ) (d : Offset) → k < l.offset-index → IsUpward (slice_index_or l.offsets k d)
