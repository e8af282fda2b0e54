use Rattle.slope_offsets.specs.Gathering.{AreFirstSteps}
use Rattle.slope_offsets.proofs.two_steps.steps_to.Given as goal

abbrev pub invariant-loop-a : goal.invariant-loop-a
invariant-loop-a l = AreFirstSteps l.offsets l.all l.whole l.a l.steps.items
