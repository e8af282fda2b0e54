use Rattle.std.proofs.Common.{◌≡◌, ◌++◌, drop}
use Rattle.mine_inputs.specs.PricedTexts.{way_list}
use Rattle.mine_inputs.proofs.priced_inputs.push_ways.Given as goal

abbrev pub invariant-loop-way : goal.invariant-loop-way
invariant-loop-way l = l.chosen.items ++ way_list (drop l.way-index l.ways) ≡ l.initial.chosen.items ++ way_list l.ways
