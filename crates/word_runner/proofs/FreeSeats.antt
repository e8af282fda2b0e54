-- An operation that is told to be idle.
use Rattle.fixed_worth.proofs.Common.{◌≡◌, ℕ, true, arith, common_steps}
use Rattle.machine_law.specs.declared.operations.Operation.{Operation}
use Rattle.machine_law.specs.declared.operations.Operation.TheVariants.{Idle}
use Rattle.machine_law.specs.Operations.{is_idle}

pub free_is : (o : Operation ℕ) → is_idle o ≡ true → o ≡ Idle
free_is o e = grind (arith, common_steps)
