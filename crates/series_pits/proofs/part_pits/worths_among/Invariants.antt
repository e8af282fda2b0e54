use Rattle.std.proofs.Common.{◌≡◌, map, take}
use Rattle.shells.specs.Prices.{worth_at}
use Rattle.series_pits.proofs.part_pits.worths_among.Given as goal

abbrev pub invariant-loop-b : goal.invariant-loop-b
invariant-loop-b l = l.worths.items ≡ map (worth_at l.prices l.factor) (take l.b-index l.kept)
