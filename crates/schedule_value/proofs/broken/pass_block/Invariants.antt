use Rattle.std.proofs.Common.{◌+◌, take}
use Rattle.prec_file.specs.Rests.{first_of}
use Rattle.schedule_value.specs.Prelude.{AreBroken, period_by}
use Rattle.schedule_value.proofs.broken.pass_block.Given as goal

abbrev pub invariant-loop-i : goal.invariant-loop-i
invariant-loop-i l = AreBroken l.lag (period_by l.schedule) l.periods
    (take (first_of l.predecessors.pairs l.b + l.i) l.predecessors.pairs) l.broken.count l.broken.first.items
