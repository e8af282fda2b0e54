use Rattle.std.proofs.Common.{◌≡◌, ℕ, ◌<◌, false, IsTrue}
use Rattle.design_value.specs.Prelude.{leads_out, marked_in}
use Rattle.design_value.proofs.open_pairs.is_closed.Given as goal

abbrev pub invariant-loop-b : goal.invariant-loop-b
invariant-loop-b g l = (b p : ℕ) → b < l.b → IsTrue ((g.P.Precedence.shown l.held).rests b p)
    → leads_out (marked_in l.marks) (b, p) ≡ false
