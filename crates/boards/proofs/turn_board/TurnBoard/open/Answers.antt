use Rattle.boards.proofs.turn_board.TurnBoard.open.Goals as goal

pub invariant_of-result : goal.invariant_of-result
invariant_of-result g c = (c.in_ok-board.ensures.records, c.len-blocks.ensures.made)
