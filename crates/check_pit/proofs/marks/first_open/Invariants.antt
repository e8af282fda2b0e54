use Rattle.std.proofs.Common.{ℕ, ◌<◌, false, length, slice_index_or}
use Rattle.prec_file.specs.Rests.{from_at}
use Rattle.places.specs.Holders.{pairs_lent}
use Rattle.check_pit.specs.Checks.{StaysAt}
use Rattle.check_pit.proofs.marks.first_open.Given as goal

abbrev pub invariant-loop-b : goal.invariant-loop-b
invariant-loop-b l = (k : ℕ) → k < length (pairs_lent l.held).pairs → from_at (pairs_lent l.held).pairs k < l.b
    → StaysAt (pairs_lent l.held).pairs (λ b. slice_index_or l.marks b false) k
