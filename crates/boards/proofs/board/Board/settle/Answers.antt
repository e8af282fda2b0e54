use Rattle.std.proofs.Common.{◌∙◌, ap, subst}
use Rattle.machine_law.specs.States.{IsQuiet}
use Rattle.async_step.specs.Views.{StateView}
use Rattle.boards.specs.Prelude.{BoardView, board_view, shown_state, HasSettled}
use Rattle.boards.proofs.Ends.{settled}
use Rattle.boards.proofs.board.Board.settle.Goals as goal

pub returns-in-Ok : goal.returns-in-Ok
returns-in-Ok g c =
    let m = c.self.inside in
    let board = board_view m.net m.state m.stuck in
    subst (λ (b : BoardView). HasSettled b m.net c.in-Ok.flow) c.self.view_is
    (settled board c.in-Ok.flow c.self.invariant c.worths-worths.ensures.net c.in-Ok.ensures.0 c.in-Ok.ensures.1)

pub returns-in-Err : goal.returns-in-Err
returns-in-Err g c =
    let m = c.self.inside in (
      ap (λ (s : StateView). board_view m.net s m.stuck) c.in-Err.ensures.0 ∙ c.self.view_is,
      subst (λ (b : BoardView). ¬ (IsQuiet b.net (shown_state b))) c.self.view_is c.in-Err.ensures.1,
    )
