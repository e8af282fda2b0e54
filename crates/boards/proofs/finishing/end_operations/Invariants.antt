use Rattle.boards.specs.Prelude.{AreIdleBelow, RecordGoesOn}
use Rattle.boards.proofs.finishing.end_operations.Given as goal

abbrev pub invariant-loop-block : goal.invariant-loop-block
invariant-loop-block g l = RecordGoesOn l.fn.board l.board l.steps × AreIdleBelow l.board.board l.block
