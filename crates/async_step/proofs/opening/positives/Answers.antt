use Rattle.fixed_worth.proofs.Common.{ap, sym, ◌∙◌, arith, map, take_all, map-map}
use Rattle.ordered_group.specs.Amount.{positive}
use Rattle.async_step.proofs.opening.positives.Goals as goal

pub returns-clause-are : goal.returns-clause-are
returns-clause-are g c =
    let f = g.G.OrderedGroup.parts_of in
    let ws = c.worths-worths.result.now in
    c.loop-worth.invariant.are
    ∙ (ap (map (λ x. positive (f x)))
    (take_all c.loop-worth.worth-index ws (omega (arith, c.loop-worth-test.false)))
    ∙ (sym (map-map positive f ws) ∙ ap (map positive) c.worths-worths.ensures.is))
