use Rattle.closure_net.proofs.Ascending.{StepsRise}
use Rattle.closure_net.proofs.pit.is_ascending.Given as goal

abbrev pub invariant-loop-i : goal.invariant-loop-i
invariant-loop-i l = StepsRise l.blocks l.i
