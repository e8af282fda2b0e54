use Rattle.fixed_worth.proofs.Common.{arith, map-set, common_steps}
use Rattle.async_step.proofs.state.State.set_flow.Goals as goal

pub returns : goal.returns
returns g c = grind (arith, common_steps, map-set)
