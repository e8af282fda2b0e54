use Rattle.fixed_worth.proofs.Common.{◌≡◌, map, range_with_len}
use Rattle.shells.specs.Prices.{way_at}
use Rattle.report_engines.proofs.way_rows.ways_at.Given as goal

abbrev pub invariant-loop-b : goal.invariant-loop-b
invariant-loop-b l = l.ways.items ≡ map (way_at l.prices l.factor) (range_with_len 0 l.b)
