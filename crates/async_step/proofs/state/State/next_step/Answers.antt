use Rattle.fixed_worth.proofs.Common.{refl, arith, common_steps}
use Rattle.async_step.proofs.Turns.{stepped, still_state}
use Rattle.async_step.proofs.state.State.next_step.Goals as goal

pub returns-clause-made : goal.returns-clause-made
returns-clause-made g c = grind (arith, common_steps, stepped)

pub returns-clause-state : goal.returns-clause-state
returns-clause-state g c = still_state _ _ _ _ _ _ c.requires.over
    (stepped _ _ _ _ _ _ c.requires.over c.requires.block refl c.advance.ensures)
