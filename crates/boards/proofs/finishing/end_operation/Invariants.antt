use Rattle.std.proofs.Common.{◌-◌}
use Rattle.boards.specs.Prelude.{shown_state, IsTurnBoard, AreIdleBelow, RecordGoesOn}
use Rattle.boards.proofs.finishing.end_operation.Given as goal

abbrev pub invariant-loop-board : goal.invariant-loop-board
invariant-loop-board g l = RecordGoesOn l.fn.board l.board l.steps × AreIdleBelow l.board.board l.block
    × IsTurnBoard l.board.board

abbrev pub decreases-loop-board : goal.decreases-loop-board
decreases-loop-board g l = l.steps - (shown_state l.board.board).steps
