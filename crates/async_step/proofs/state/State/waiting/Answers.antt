use Rattle.fixed_worth.proofs.Common.{arith, common_steps}
use Rattle.async_step.proofs.Waits.{waits}
use Rattle.async_step.proofs.state.State.waiting.Goals as goal

pub returns : goal.returns
returns g c = grind (arith, common_steps, waits)
