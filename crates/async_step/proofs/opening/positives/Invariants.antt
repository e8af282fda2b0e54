use Rattle.fixed_worth.proofs.Common.{◌≡◌, map, take, All}
use Rattle.ordered_group.specs.Amount.{positive, FitsPair}
use Rattle.async_step.proofs.opening.positives.Given as goal

abbrev pub invariant-loop-worth : goal.invariant-loop-worth
invariant-loop-worth g l = record {
  are : map g.G.OrderedGroup.parts_of l.amounts.items ≡ map (λ x. positive (g.G.OrderedGroup.parts_of x))
      (take l.worth-index l.worths);
  fit : All FitsPair (map g.G.OrderedGroup.parts_of l.amounts.items);
}
