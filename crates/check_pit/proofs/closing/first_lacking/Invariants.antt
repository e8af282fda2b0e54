use Rattle.std.proofs.Common.{ℕ, ◌<◌, IsTrue, get_or}
use Rattle.closure_net.specs.Network.{holds_of}
use Rattle.check_pit.proofs.closing.first_lacking.Given as goal

abbrev pub invariant-loop-p : goal.invariant-loop-p
invariant-loop-p l = (j : ℕ) → j < l.p-index → IsTrue (holds_of l.fn.pit (get_or l.above j 0))
