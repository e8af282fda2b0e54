use Rattle.std.proofs.Common.{ℕ, ◌<◌, false, IsTrue, get_or}
use Rattle.check_pit.proofs.marks.first_listed.Given as goal

abbrev pub invariant-loop-p : goal.invariant-loop-p
invariant-loop-p l = (j : ℕ) → j < l.p-index → IsTrue (get_or l.marks (get_or l.above j 0) false)
