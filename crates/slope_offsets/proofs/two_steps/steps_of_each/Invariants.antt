use Rattle.slope_offsets.specs.Gathering.{AreStepsOfEach}
use Rattle.slope_offsets.proofs.two_steps.steps_of_each.Given as goal

abbrev pub invariant-loop-whole : goal.invariant-loop-whole
invariant-loop-whole l = AreStepsOfEach l.selection l.offsets l.all l.whole-index l.steps.items
