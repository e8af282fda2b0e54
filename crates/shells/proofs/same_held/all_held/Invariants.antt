use Rattle.std.proofs.Common.{ℕ, ◌<◌, IsTrue, get_or}
use Rattle.shells.proofs.same_held.all_held.Given as goal

abbrev pub invariant-loop-k : goal.invariant-loop-k
invariant-loop-k g l = (i : ℕ) → i < l.k
    → IsTrue ((g.P.Precedence.shown l.held).rests (get_or l.list.pairs i (0, 0)).0 (get_or l.list.pairs i (0, 0)).1)
