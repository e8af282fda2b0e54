-- What a tight closed set shows, of the law's premises.
use Rattle.closure_net.proofs.Duality.{greatest_from_tight, greatest_flow_from_tight}
use Rattle.check_pit.specs.Duality.{WeakDuality}
use Rattle.fixed_worth.proofs.Common.{common_steps, arith}

pub duality : WeakDuality
duality net flow e order is closed tight = grind (arith, common_steps, greatest_from_tight, greatest_flow_from_tight)
