use Rattle.fixed_worth.proofs.Common.{◌≡◌, ◌∙◌, length, inr, subst, to_z, to_z-of_z, FitsSigned, arith, rules, w128}
use Rattle.fixed_worth.proofs.Common.{get_or_default}
use Rattle.ordered_group.specs.Sets.{worth_in}
use Rattle.shells.specs.Prelude.{worth_at}
use Rattle.sub_mines.specs.Prelude.{every_block, number_in}
use Rattle.series_pits.proofs.Summing.{if_none, sum_leaves}
use Rattle.series_pits.proofs.lifted_pits.worth_of.Goals as goal

pub returns-in_err-sum-clause-none : goal.returns-in_err-sum-clause-none
returns-in_err-sum-clause-none c =
    let large = rw c.in_err-sum.was at c.checked_add.ensures in
    let fits : FitsSigned w128 c.worth.result = search rules in
    if_none c.from_residual.result
    (inr (sum_leaves c.args.prices.now c.args.factor c.args.blocks.now c.loop-b.b-index _ _ c.loop-b-test.true
    c.loop-b.invariant.0 (to_z-of_z w128 c.worth.result fits ∙ c.worth.ensures) large))

pub returns-clause-sum : goal.returns-clause-sum
returns-clause-sum c =
    let blocks = c.args.blocks.now in
    let end : c.loop-b.b-index ≡ length blocks = omega (arith, c.loop-b-test.false, c.loop-b.auto.b-index-end) in (
      subst (λ n. to_z w128 c.loop-b.sum-bits ≡ worth_in
          (λ i. worth_at c.args.prices.now c.args.factor (number_in blocks i)) every_block n) end c.loop-b.invariant.0,
      λ k d l. let at = c.loop-b.invariant.1 k (omega (arith, l, end)) in omega
          (arith, at, get_or_default blocks k d 0 l),
    )
