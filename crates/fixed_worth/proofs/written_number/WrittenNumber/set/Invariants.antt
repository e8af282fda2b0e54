use Rattle.fixed_worth.proofs.DigitsFromEnd.{AreWritten}
use Rattle.fixed_worth.proofs.written_number.WrittenNumber.set.Given as goal

abbrev pub invariant-loop-wide : goal.invariant-loop-wide
invariant-loop-wide l = AreWritten l.n l.wide l.start l.self-inside.bytes

abbrev pub decreases-loop-wide : goal.decreases-loop-wide
decreases-loop-wide l = l.wide

abbrev pub invariant-loop-left : goal.invariant-loop-left
invariant-loop-left l = AreWritten l.n l.left l.start l.self-inside.bytes

abbrev pub decreases-loop-left : goal.decreases-loop-left
decreases-loop-left l = l.left
