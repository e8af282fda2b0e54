use Rattle.std.proofs.Common.{◌≡◌, length}
use Rattle.settings_file.specs.Values.{are_ascending}
use Rattle.settings_file.proofs.arrays.is_ascending.Given as goal

abbrev pub invariant-loop-first : goal.invariant-loop-first
invariant-loop-first l = are_ascending l.numbers ≡ are_ascending l.rest

abbrev pub decreases-loop-first : goal.decreases-loop-first
decreases-loop-first l = length l.rest
