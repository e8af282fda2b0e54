use Rattle.std.proofs.Common.{ℕ, ◌<◌}
use Rattle.prec_file.specs.Written.{IsNarrowAt}
use Rattle.prec_file.proofs.writing.first_wide.Given as goal

abbrev pub invariant-loop-b : goal.invariant-loop-b
invariant-loop-b l = (k : ℕ) → k < l.b → IsNarrowAt l.predecessors k
