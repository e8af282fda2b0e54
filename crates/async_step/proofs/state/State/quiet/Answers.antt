use Rattle.fixed_worth.proofs.Common.{arith, common_steps}
use Rattle.async_step.proofs.Waits.{quiet_tells}
use Rattle.async_step.proofs.state.State.quiet.Goals as goal

pub returns : goal.returns
returns g c = λ net n. grind (arith, common_steps, quiet_tells)
