use Rattle.slope_offsets.specs.Gathering.{AreStepsOfRegions}
use Rattle.slope_offsets.proofs.two_steps.steps_by.Given as goal

abbrev pub invariant-loop-pattern : goal.invariant-loop-pattern
invariant-loop-pattern l = AreStepsOfRegions l.selection l.patterns l.all l.pattern-index l.steps.items
