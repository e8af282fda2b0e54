use Rattle.std.proofs.Common.{◌≡◌, length}
use Rattle.periods_file.specs.Values.{are_falling}
use Rattle.periods_file.proofs.arrays.is_falling.Given as goal

abbrev pub invariant-loop-first : goal.invariant-loop-first
invariant-loop-first l = are_falling l.numbers ≡ are_falling l.rest

abbrev pub decreases-loop-first : goal.decreases-loop-first
decreases-loop-first l = length l.rest
