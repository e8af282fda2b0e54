use Rattle.std.proofs.Common.{◌≡◌, take}
use Rattle.slope_offsets.proofs.two_steps.widened.Given as goal

abbrev pub invariant-loop-offset : goal.invariant-loop-offset
invariant-loop-offset l = l.wide.items ≡ take l.offset-index l.offsets
