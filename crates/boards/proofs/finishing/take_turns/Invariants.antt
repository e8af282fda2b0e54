use Rattle.std.proofs.Common.{◌≡◌}
use Rattle.boards.specs.Prelude.{shown_state, blocks_of_board, IsTurnBoard, IsAlone, RecordGoesOn}
use Rattle.boards.proofs.finishing.take_turns.Given as goal

abbrev pub invariant-loop-made : goal.invariant-loop-made
invariant-loop-made g l = RecordGoesOn l.fn.board l.board l.steps
    × IsAlone (blocks_of_board l.board.board) (shown_state l.board.board) l.own
    × ((shown_state l.board.board).steps ≡ l._made) × IsTurnBoard l.board.board
