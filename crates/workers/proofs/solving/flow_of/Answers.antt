use Rattle.std.proofs.Common.{subst, sym}
use Rattle.machine_law.specs.States.{IsQuiet}
use Rattle.boards.specs.Boards.{BoardView, shown_state}
use Rattle.workers.proofs.RunEnds.{cut_off, overflows, settles}
use Rattle.workers.proofs.solving.flow_of.Goals as goal

pub returns-in-Stuck : goal.returns-in-Stuck
returns-in-Stuck g c = overflows c.args.board c.finish.new.board c.args.limit c.most_steps.result c.most_steps.ensures
    c.in-Stuck.ensures.board c.in-Stuck.ensures.goes_on c.in-Stuck.ensures.end

pub returns-in-Limit : goal.returns-in-Limit
returns-in-Limit g c = cut_off c.args.board c.finish.new.board c.args.limit c.most_steps.result c.most_steps.ensures
    c.in-Limit.ensures.board c.in-Limit.ensures.goes_on c.in-Limit.ensures.end

pub unreachable-requires-in-Err : goal.unreachable-requires-in-Err
unreachable-requires-in-Err g c = c.in-Err.ensures.1
    (subst (λ (b : BoardView). IsQuiet b.net (shown_state b)) (sym c.into_board-board.ensures.is)
    c.in-Quiet.ensures.end)

pub returns : goal.returns
returns g c =
    settles c.args.board c.finish.new.board c.args.limit c.most_steps.result c.most_steps.ensures
    c.finish.ensures.board c.finish.ensures.goes_on
    c.into_board-board.result c.count-steps.result _ _ c.into_board-board.ensures.is c.count-steps.ensures
    c.in-Ok.ensures
