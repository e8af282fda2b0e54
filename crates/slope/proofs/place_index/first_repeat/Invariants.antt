use Rattle.std.proofs.Common.{◌≤◌}
use Rattle.slope.proofs.Repeats.{SoFar}
use Rattle.slope.proofs.place_index.first_repeat.Given as goal

abbrev pub invariant-loop-i : goal.invariant-loop-i
invariant-loop-i l = (1 ≤ l.i) × SoFar l.entries l.i l.repeat
