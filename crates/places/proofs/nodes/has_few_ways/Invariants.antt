use Rattle.std.proofs.Common.{ℕ, ◌<◌, ◌≤◌}
use Rattle.prec_file.specs.declared.limits.TheConstants.{MOST_PAIRS}
use Rattle.places.proofs.nodes.has_few_ways.Given as goal

abbrev pub invariant-loop-b : goal.invariant-loop-b
invariant-loop-b g l = (b : ℕ) → b < l.b → (g.P.Precedence.shown l.fn.held).ways b ≤ MOST_PAIRS
