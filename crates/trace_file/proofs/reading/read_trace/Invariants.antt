use Rattle.std.proofs.Common.{length}
use Rattle.fixed_worth.specs.Text.{parts}
use Rattle.trace_file.proofs.Steps.{Going}
use Rattle.trace_file.proofs.reading.read_trace.Given as goal

abbrev pub invariant-loop-cut : goal.invariant-loop-cut
invariant-loop-cut l = Going l.fn.text l.left l.events.items

abbrev pub decreases-loop-cut : goal.decreases-loop-cut
decreases-loop-cut l = length (parts 10 l.left)
