use Rattle.slope_offsets.specs.Gathering.{HoldsOf}
use Rattle.slope_offsets.proofs.two_steps.all_offsets.Given as goal

abbrev pub invariant-loop-pattern : goal.invariant-loop-pattern
invariant-loop-pattern l = HoldsOf l.patterns l.pattern-index l.all.items
