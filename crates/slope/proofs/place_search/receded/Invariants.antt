use Rattle.std.proofs.Common.{◌≤◌, length}
use Rattle.slope.proofs.place_search.receded.Given as goal

abbrev pub invariant-loop : goal.invariant-loop
invariant-loop l = l.at ≤ length l.keys
