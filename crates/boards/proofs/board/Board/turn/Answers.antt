use Rattle.boards.proofs.Ends.{turn_of_none, turn_of_step}
use Rattle.boards.proofs.board.Board.turn.Goals as goal

pub returns-in-Ok-clause-turn : goal.returns-in-Ok-clause-turn
returns-in-Ok-clause-turn g c = turn_of_step c.args.self.now c.serve.new.self c.args.own c.args.from c.args.steps
    c.in-Ok.block c.serve.result c.in-Ok.ensures.due c.serve.ensures.turn

pub returns-in-Err-clause-turn : goal.returns-in-Err-clause-turn
returns-in-Err-clause-turn g c = turn_of_none c.args.self.now c.args.own c.args.from c.args.steps c.in-Err.turn
    c.in-Err.ensures.due

pub returns-in-Err-clause-board : goal.returns-in-Err-clause-board
returns-in-Err-clause-board g c = c.due.ensures.board
