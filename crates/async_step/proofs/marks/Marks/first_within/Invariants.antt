use Rattle.std.proofs.Common.{◌-◌, ◌≤◌}
use Rattle.async_step.specs.Marks.{NoneWithin}
use Rattle.async_step.proofs.marks.Marks.first_within.Given as goal

abbrev pub invariant-loop-at : goal.invariant-loop-at
invariant-loop-at l = record { past : l.from ≤ l.at; none : NoneWithin l.self l.from l.at }

abbrev pub decreases-loop-at : goal.decreases-loop-at
decreases-loop-at l = l.to - l.at
