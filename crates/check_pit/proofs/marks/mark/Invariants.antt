use Rattle.std.proofs.Common.{length}
use Rattle.check_pit.proofs.MarkedBlocks.{ShowsFirst}
use Rattle.check_pit.proofs.marks.mark.Given as goal

abbrev pub invariant-loop-b : goal.invariant-loop-b
invariant-loop-b l = ShowsFirst l.marks (length l.fn.marks) l.blocks l.b-index
