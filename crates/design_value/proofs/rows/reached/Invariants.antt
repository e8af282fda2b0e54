use Rattle.design_value.specs.Reached.{AreReached}
use Rattle.design_value.proofs.rows.reached.Given as goal

abbrev pub invariant-loop-way : goal.invariant-loop-way
invariant-loop-way g l = AreReached (g.P.Precedence.shown l.held) l.b l.way l.pairs.items
