use Rattle.std.proofs.Common.{◌≡◌, ℕ, ◌<◌, Some, Contains}
use Rattle.shells.proofs.same_held.has_row.Given as goal

abbrev pub invariant-loop-way : goal.invariant-loop-way
invariant-loop-way g l = (p k : ℕ) → k < l.way → (g.P.Precedence.shown l.held).way l.b k ≡ Some p
    → Contains l.list.pairs (l.b, p)
