use Rattle.std.proofs.Common.{ℕ, ◌<◌, IsTrue, Contains}
use Rattle.shells.proofs.same_held.all_listed.Given as goal

abbrev pub invariant-loop-b : goal.invariant-loop-b
invariant-loop-b g l = (b p : ℕ) → b < l.b → IsTrue ((g.P.Precedence.shown l.held).rests b p)
    → Contains l.list.pairs (b, p)
