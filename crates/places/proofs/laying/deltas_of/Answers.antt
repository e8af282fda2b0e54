use Rattle.fixed_worth.proofs.Common.{arith, common_steps, get_or-map}
use Rattle.places.proofs.DeltaSteps.{deltas_next}
use Rattle.places.proofs.laying.deltas_of.Goals as goal

pub loop-r-preserved : goal.loop-r-preserved
loop-r-preserved c =
    deltas_next _ _ c.loop-r.r _ _ c.in_ok-added.added.items _ _ c.deref.result.now c.len-in-loop-r.result
    c.loop-r.invariant c.in_ok-added.ensures
    (grind (arith, common_steps, get_or-map)) (grind (arith, common_steps)) (grind (arith, common_steps))
    (grind (arith, common_steps))
