use Rattle.fixed_worth.proofs.Common.{◌∙◌, ap, subst, arith, inr, map, ℤ, take_all}
use Rattle.ordered_group.specs.Amount.{Amount}
use Rattle.closure_net.specs.Faults.{WorthsOverflow}
use Rattle.closure_net.proofs.worths.worths_of_blocks.Goals as goal

pub returns-then-not-worths_fit : goal.returns-then-not-worths_fit
returns-then-not-worths_fit g c =
    let parts = g.G.OrderedGroup.parts_of in
    let block : ℤ → Amount = λ v. g.G.OrderedGroup.block_parts v c.args.n in
    let all = ap (map block) (take_all c.loop-x.x-index c.args.nanos.now (omega arith)) in (
      omega arith,
      inr (subst WorthsOverflow (ap (map parts) c.deref.ensures.value ∙ c.loop-x.invariant ∙ all)
          c.if-not-worths_fit.ensures),
    )
