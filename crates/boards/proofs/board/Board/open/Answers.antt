use Rattle.boards.proofs.board.Board.open.Goals as goal

pub invariant_of-result : goal.invariant_of-result
invariant_of-result g c = record { over = c.in_ok-state.ensures.state; why = λ t. absurd cc }
