use Rattle.fixed_worth.proofs.Common.{ℕ, sym, arith, subst, ◌≤◌, ◌^◌, SomeIff, common_steps}
use Rattle.fixed_worth.proofs.Powers.{rounds_up, rounds_down}
use Rattle.fixed_worth.proofs.rounding.rounded.Goals as goal

pub returns-then-up-down : goal.returns-then-up-down
returns-then-up-down c = subst (λ (x : ℕ). SomeIff c.scaled_up.result (x ≤ 10 ^ 18) x)
    (sym (rounds_up c.args.m c.args.up c.args.down c.if-up-down.true)) c.scaled_up.ensures

pub returns-then-value-gt-MOST : goal.returns-then-value-gt-MOST
returns-then-value-gt-MOST c = grind (arith, common_steps, rounds_down)

pub returns-else-value-gt-MOST : goal.returns-else-value-gt-MOST
returns-else-value-gt-MOST c = grind (arith, common_steps, rounds_down)
