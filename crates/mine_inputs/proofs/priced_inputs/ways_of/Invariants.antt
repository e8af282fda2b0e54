use Rattle.fixed_worth.proofs.Common.{◌≡◌}
use Rattle.mine_inputs.specs.PricedTexts.{ways_from}
use Rattle.mine_inputs.proofs.priced_inputs.ways_of.Given as goal

abbrev pub invariant-loop-i : goal.invariant-loop-i
invariant-loop-i l = l.ways.items ≡ ways_from l.i l.model
