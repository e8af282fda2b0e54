use Rattle.std.proofs.Common.{take}
use Rattle.prec_file.specs.Rests.{first_of}
use Rattle.schedule_value.specs.Prelude.{AreBroken, period_by}
use Rattle.schedule_value.proofs.broken.broken_pairs_of.Given as goal

abbrev pub invariant-loop-b : goal.invariant-loop-b
invariant-loop-b l = AreBroken l.lag (period_by l.schedule) l.periods
    (take (first_of l.predecessors.pairs l.b) l.predecessors.pairs) l.broken.count l.broken.first.items
