use Rattle.std.proofs.Common.{arith, ap₂, ℤ, pos, to_z, of_z, unsigned_abs}
use Rattle.std.proofs.lemmas.Int.{to_z-of_z}
use Rattle.ordered_group.proofs.Quotients.{quotient_with, machine_quotient, told_exactly}
use Rattle.ordered_group.proofs.scaled.ScaledOrderedGroup.nanos_of_set.Goals as goal
use Rattle.std.proofs.lemmas.Grind.{common_steps}

pub returns : goal.returns
returns c = grind (
  arith,
  common_steps,
  to_z-of_z,
  to_z,
  of_z,
  pos,
  ap₂,
  unsigned_abs,
  quotient_with,
  machine_quotient,
  told_exactly,
  ℤ,
)
