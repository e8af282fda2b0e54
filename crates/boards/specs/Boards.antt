-- Boards: a net, and a state of the machine over it.
use Rattle.std.specs.Prelude.{◌≡◌, ℕ, Bool, true, false, length}
use Rattle.ordered_group.specs.Amount.{Amount}
use Rattle.closure_net.specs.Network.{NetView, FlowView}
use Rattle.machine_law.specs.declared.events.Event.{Event}
use Rattle.async_step.specs.declared.saw.Saw.{Saw}
use Rattle.async_step.specs.declared.refusals.StepRefusal.{StepRefusal}
use Rattle.machine_law.specs.Prelude.{State, opening, IsQuiet, IsFlowOf, IsSolved}
use Rattle.async_step.specs.Prelude.{StateView, state_of, IsStateOf, IsStepTaken, RefusalStands}
use Rattle.boards.specs.Runs.{SomeNextOverflows, SomeRunOverflows, IsMadeByTurns}

-- a net, the lists of a state, and whether the run can't go on since a number wouldn't fit
pub record BoardView : Type 0 where
  pub net : NetView
  pub state : StateView
  pub stuck : Bool

abbrev pub board_view : NetView → StateView → Bool → BoardView
board_view net state stuck = record { net = net; state = state; stuck = stuck }

-- the state that a board shows
abbrev pub shown_state : BoardView → State
shown_state board = state_of board.state

-- how many blocks it is over
abbrev pub blocks_of_board : BoardView → ℕ
blocks_of_board board = length board.net.worths

-- The state is one of a run over the net, so all that holds after any run holds of it; and it is stuck only where a
-- number of a run doesn't fit. Steps of any block may have been made on it.
pub record IsBoard (board : BoardView) : Type 0 where
  pub over : IsStateOf board.net board.state
  pub why : board.stuck ≡ true → SomeRunOverflows board.net

-- Turns alone made its steps; and it is stuck only where a number of the state after its own next step of some block
-- doesn't fit.
pub record IsTurnBoard (board : BoardView) : Type 0 where
  pub is_board : IsBoard board
  pub made : IsMadeByTurns board.net (shown_state board)
  pub why : board.stuck ≡ true → SomeNextOverflows board.net (shown_state board)

-- a board as it opens over a net
pub record IsOpened (net : NetView) (board : BoardView) : Type 0 where
  pub net_is : board.net ≡ net
  pub state : shown_state board ≡ opening net
  pub free : board.stuck ≡ false

-- one step was made on it, and this is what the step saw, moved or raised
pub record HasStepped (old : BoardView) (event : Event) (new : BoardView) (saw : Saw Amount) : Type 0 where
  pub step : IsStepTaken old.net old.state event new.state saw
  pub rest : new ≡ record old { state = new.state }

-- a step was refused, and it is as before
pub record HasRefused (old : BoardView) (event : Event) (new : BoardView) (refusal : StepRefusal) : Type 0 where
  pub same : new ≡ old
  pub stands : RefusalStands old.net (shown_state old) event refusal

-- the flow that a quiet board gives, with its own net
pub record HasSettled (board : BoardView) (net : NetView) (flow : FlowView) : Type 0 where
  pub net_is : net ≡ board.net
  pub quiet : IsQuiet board.net (shown_state board)
  pub amounts : IsFlowOf board.net (shown_state board) flow
  pub solved : IsSolved board.net flow
