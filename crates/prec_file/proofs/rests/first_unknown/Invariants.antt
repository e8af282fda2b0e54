use Rattle.std.proofs.Common.{ℕ, ◌<◌, slice_index_or}
use Rattle.prec_file.specs.Rests.{IsKnown}
use Rattle.prec_file.proofs.rests.first_unknown.Given as goal

abbrev pub invariant-loop-i : goal.invariant-loop-i
invariant-loop-i l = (k : ℕ) (d : ℕ × ℕ) → k < l.i → IsKnown l.n (slice_index_or l.listed k d)
