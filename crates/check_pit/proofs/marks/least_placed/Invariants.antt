use Rattle.std.proofs.Common.{false, get_or}
use Rattle.check_pit.proofs.LeastLacks.{LeastSoFar}
use Rattle.check_pit.proofs.marks.least_placed.Given as goal

abbrev pub invariant-loop-k : goal.invariant-loop-k
invariant-loop-k g l = LeastSoFar (g.P.Precedence.shown l.fn.of) (λ q. get_or l.fn.marks q false) l.fn.b l.k l.least
