use Rattle.fixed_worth.proofs.Common.{◌-◌, arith, common_steps}
use Rattle.fixed_worth.proofs.Powers.{shifted, too_large}
use Rattle.fixed_worth.proofs.rounding.scaled_up.Goals as goal

pub returns-then-value-gt-MOST : goal.returns-then-value-gt-MOST
returns-then-value-gt-MOST c = too_large c.loop-i.value (c.args.k - c.loop-i.i) _ c.loop-i.invariant.same
    c.if-value-gt-MOST.true

pub loop-i-preserved : goal.loop-i-preserved
loop-i-preserved c = grind (arith, common_steps, shifted)
