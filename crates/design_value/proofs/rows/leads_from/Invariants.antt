use Rattle.std.proofs.Common.{◌≡◌, ℕ, ◌<◌, Some, IsTrue}
use Rattle.design_value.specs.Prelude.{marked_in}
use Rattle.design_value.proofs.rows.leads_from.Given as goal

abbrev pub invariant-loop-way : goal.invariant-loop-way
invariant-loop-way g l = (p k : ℕ) → k < l.way → (g.P.Precedence.shown l.held).way l.b k ≡ Some p
    → IsTrue (marked_in l.marks p)
