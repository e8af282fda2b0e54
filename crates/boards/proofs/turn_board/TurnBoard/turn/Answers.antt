use Rattle.std.proofs.Common.{subst}
use Rattle.boards.specs.Prelude.{BoardView, IsTurn}
use Rattle.boards.proofs.turn_board.TurnBoard.turn.Goals as goal

pub returns-clause-turn : goal.returns-clause-turn
returns-clause-turn g c =
    subst (λ (b : BoardView). IsTurn b c.args.own c.args.from c.args.steps c.turn.new.self.board c.turn.result)
    c.self.view_is c.turn.ensures.turn
