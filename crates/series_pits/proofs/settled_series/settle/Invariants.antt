use Rattle.std.proofs.Common.{take}
use Rattle.series_pits.specs.SettledSeries.{IsSettled}
use Rattle.series_pits.proofs.settled_series.settle.Given as goal

abbrev pub invariant-loop-place : goal.invariant-loop-place
invariant-loop-place g l = IsSettled l.fn.mine.predecessors.pairs l.fn.mine.prices
    (take l.place l.fn.mine.factors.items) l.shells.series l.shells.rows.items
