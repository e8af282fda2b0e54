use Rattle.std.proofs.Common.{◌≡◌, replicate}
use Rattle.machine_law.specs.declared.operations.Operation.TheVariants.{Idle}
use Rattle.async_step.proofs.opening.idle_operations.Given as goal

abbrev pub invariant-loop-k : goal.invariant-loop-k
invariant-loop-k g l = l.operations.items ≡ replicate l._k Idle
