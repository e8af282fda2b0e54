-- What nodes are made of, and who precedes whom by that.
use Rattle.std.specs.Prelude.{ℕ}
use Rattle.prec_file.specs.Rests.{RestsView}
use Rattle.places.specs.Ways.{listed}
use Rattle.places.specs.Held.{shown}
use Rattle.places.specs.Nodes.{TimedView}
use Rattle.places.specs.declared.holders.Held.{Held}

-- The list or the grid of the blocks, how many periods there are, and the pairs of a block and one for which it waits,
-- so many periods.
pub record NodesView : Type 0 where
  pub base : Held
  pub periods : ℕ
  pub waits : RestsView
  pub lag : ℕ

abbrev pub timed : NodesView → TimedView
timed v = record { base = shown v.base; periods = v.periods; waits = listed v.waits; lag = v.lag }
