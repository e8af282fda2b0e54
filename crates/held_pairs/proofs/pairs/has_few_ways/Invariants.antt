use Rattle.std.proofs.Common.{◌≤◌, ◌^◌, length}
use Rattle.places.specs.Prelude.{pairs_below}
use Rattle.held_pairs.proofs.pairs.has_few_ways.Given as goal

abbrev pub invariant-loop-b : goal.invariant-loop-b
invariant-loop-b g l = (length
    (pairs_below (g.P.Precedence.shown l.fn.held).rests (g.P.Precedence.shown l.fn.held).blocks l.b) ≤ l.total)
    × (l.total ≤ 2 ^ 36)
