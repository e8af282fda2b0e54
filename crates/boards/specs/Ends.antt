-- How the turns at a board end a run.
use Rattle.std.specs.Prelude.{◌≡◌, ℕ, ◌<◌, ◌≤◌, Option, Some, List}
use Rattle.machine_law.specs.declared.events.Event.{Event}
use Rattle.machine_law.specs.declared.operations.Operation.TheVariants.{Idle}
use Rattle.machine_law.specs.States.{State, IsQuiet}
use Rattle.boards.specs.Runs.{SomeNextOverflows, AreTurnsBetween}
use Rattle.boards.specs.Boards.{BoardView, shown_state}
use Rattle.boards.specs.declared.turn.End.{End}
use Rattle.boards.specs.declared.turn.End.TheVariants.{Quiet, Stuck, Limit, Full}

-- no block but the own, if there is one, has an operation
pub record IsAlone (n : ℕ) (s : State) (own : Option ℕ) : Type 0 where
  pub known : (b : ℕ) → own ≡ Some b → b < n
  pub others : (c : ℕ) → c < n → ¬ (own ≡ Some c) → s.operation c ≡ Idle

-- none of the blocks below this one has an operation
abbrev pub AreIdleBelow : BoardView → ℕ → Type 0
AreIdleBelow board b = (c : ℕ) → c < b → (shown_state board).operation c ≡ Idle

-- the board made so many steps, and isn't quiet
pub record IsCutOffAt (board : BoardView) (steps : ℕ) : Type 0 where
  pub counted : (shown_state board).steps ≡ steps
  pub unquiet : ¬ (IsQuiet board.net (shown_state board))

-- why the run of this board ends
abbrev pub HasEnded : BoardView → ℕ → End → Type 0
HasEnded board limit Quiet = IsQuiet board.net (shown_state board)
HasEnded board limit Stuck = SomeNextOverflows board.net (shown_state board)
HasEnded board limit Limit = IsCutOffAt board limit
HasEnded board limit Full = ⊥

-- The run goes on over the same net, with at most so many steps: these further turns lead from the state that the board
-- showed to the one that it shows now.
pub record GoesOn (old new : BoardView) (limit : ℕ) : Type 0 where
  pub net_is : new.net ≡ old.net
  pub within : (shown_state new).steps ≤ limit
  pub events : List Event
  pub run : AreTurnsBetween old.net (shown_state old) events (shown_state new)
