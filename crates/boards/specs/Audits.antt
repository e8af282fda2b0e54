-- Boards beside the histories of their steps.
use Rattle.std.specs.Prelude.{◌≡◌, ℕ, ◌<◌, ◌≤◌, ◌⊎◌, Bool, Option, List, [], ◌∷◌, ◌++◌, length}
use Rattle.closure_net.specs.Network.{NetView, FlowView}
use Rattle.machine_law.specs.declared.events.Event.{Event}
use Rattle.machine_law.specs.Prelude.{IsQuiet, next_event}
use Rattle.boards.specs.Runs.{SomeNextOverflows, AreTurnsTo, IsReplayedTo}
use Rattle.boards.specs.Boards.{BoardView, shown_state, IsTurnBoard, IsOpened, HasSettled}
use Rattle.boards.specs.Turns.{IsUnserved, IsGoing, IsBlockDue, IsStuck, IsAtLimit, HasServed, Sticks, OfDue}
use Rattle.boards.specs.Ends.{IsCutOffAt, GoesOn}
use Rattle.boards.specs.Records.{RecordView}
use Rattle.boards.specs.declared.turn.Turn.{Turn}
use Rattle.boards.specs.declared.turn.Turn.TheVariants.{Stepped, Idle as Unserved, Ended}
use Rattle.boards.specs.declared.turn.End.{End}
use Rattle.boards.specs.declared.turn.End.TheVariants.{Quiet, Stuck, Limit, Full}
use Rattle.machine_law.specs.declared.events.TheConstants.{MOST_EVENTS}

-- a board, the events of all its steps, and for how many there is room
pub record AuditView : Type 0 where
  pub board : BoardView
  pub history : List Event
  pub room : ℕ

-- what is written down of a board's turns, as its history
abbrev pub audit_of : RecordView → AuditView
audit_of r = record { board = r.board; history = r.events; room = r.room }

-- The history leads from the opening state of the board's net to the board's state: each event is a step of a run, no
-- ReadExcess of it sees zero, and after each step all numbers fit. So there are as many events as steps. Where the
-- board is stuck, its next step of some block overflows.
pub record IsAudited (audit : AuditView) : Type 0 where
  pub turns : IsTurnBoard audit.board
  pub made : AreTurnsTo audit.board.net audit.history (shown_state audit.board)
  pub counted : (shown_state audit.board).steps ≡ length audit.history
  pub within : length audit.history ≤ audit.room
  pub few : audit.room ≤ MOST_EVENTS

-- as it opens over a net
pub record IsAuditOpened (net : NetView) (most : ℕ) (audit : AuditView) : Type 0 where
  pub board : IsOpened net audit.board
  pub history : audit.history ≡ []
  pub room : audit.room ≡ most

-- ---- a turn

-- the run may make another step, and there is room to write it down
pub record MayWrite (audit : AuditView) (steps : ℕ) : Type 0 where
  pub going : IsGoing audit.board steps
  pub room : length audit.history < audit.room

-- the run may make another step, but there is no room to write it down
pub record IsFull (audit : AuditView) (steps : ℕ) : Type 0 where
  pub going : IsGoing audit.board steps
  pub full : length audit.history ≡ audit.room

-- the one step that is next for the block was made, and its event was added to the history
pub record HasWritten (old : AuditView) (b : ℕ) (new : AuditView) (more : Bool) : Type 0 where
  pub room : length old.history < old.room
  pub served : HasServed old.board b new.board more
  pub history : new.history ≡ old.history ++ next_event old.board.net (shown_state old.board) b ∷ []
  pub same_room : new.room ≡ old.room

-- the step overflows: the board is marked as stuck, and nothing else changes
pub record Halts (old : AuditView) (b : ℕ) (new : AuditView) : Type 0 where
  pub room : length old.history < old.room
  pub sticks : Sticks old.board b new.board
  pub rest : new ≡ record old { board = new.board }

-- why a turn ends the run
abbrev pub IsAuditEnd : AuditView → Option ℕ → ℕ → ℕ → AuditView → End → Type 0
IsAuditEnd old own from steps new Quiet = IsQuiet old.board.net (shown_state old.board) × (new ≡ old)
IsAuditEnd old own from steps new Stuck = (IsStuck old.board × (new ≡ old))
    ⊎ OfDue old.board own from steps (λ b. Halts old b new)
IsAuditEnd old own from steps new Limit = IsAtLimit old.board steps × (new ≡ old)
IsAuditEnd old own from steps new Full = IsFull old steps × (new ≡ old)

-- What a turn answers, and what it leaves: as a turn at a board, but for a history that has no room. There are fewer
-- steps than are counted, so the limit is answered where it stands alone.
abbrev pub IsAuditTurn : AuditView → Option ℕ → ℕ → ℕ → AuditView → Turn → Type 0
IsAuditTurn old own from steps new (Stepped block more) = IsBlockDue old.board own from steps block
    × HasWritten old block new more
IsAuditTurn old own from steps new Unserved = MayWrite old steps × IsUnserved old.board own × (new ≡ old)
IsAuditTurn old own from steps new (Ended end) = IsAuditEnd old own from steps new end

-- ---- how turns end a run

-- The end of a run that may make as many steps as the limit and the room both allow is told as this one: at the lower
-- of the two, the limit where it is reached, and else the room.
abbrev pub IsToldAs : ℕ → ℕ → End → End → Type 0
IsToldAs made limit Quiet told = told ≡ Quiet
IsToldAs made limit Stuck told = told ≡ Stuck
IsToldAs made limit Limit told = ((limit ≤ made) × (told ≡ Limit)) ⊎ ((made < limit) × (told ≡ Full))
IsToldAs made limit Full told = told ≡ Full

-- there is no room for another step, below the limit, and the board isn't quiet
pub record IsHistoryFull (audit : AuditView) (limit : ℕ) : Type 0 where
  pub full : length audit.history ≡ audit.room
  pub below : audit.room < limit
  pub unquiet : ¬ (IsQuiet audit.board.net (shown_state audit.board))

-- why the run of this board ends
abbrev pub HasAuditEnded : AuditView → ℕ → End → Type 0
HasAuditEnded audit limit Quiet = IsQuiet audit.board.net (shown_state audit.board)
HasAuditEnded audit limit Stuck = SomeNextOverflows audit.board.net (shown_state audit.board)
HasAuditEnded audit limit Limit = IsCutOffAt audit.board limit
HasAuditEnded audit limit Full = IsHistoryFull audit limit

-- the run goes on over the same net, with the same room, and its further turns, and no others, are added to the history
pub record AuditGoesOn (old new : AuditView) (limit : ℕ) : Type 0 where
  pub board : GoesOn old.board new.board limit
  pub history : new.history ≡ old.history ++ board.events
  pub room : new.room ≡ old.room

-- ---- what a quiet one gives

-- the flow of the board with its own net, and the history, whose replay leads to that flow
pub record HasAuditSettled (audit : AuditView) (net : NetView) (flow : FlowView) (events : List Event) : Type 0 where
  pub settled : HasSettled audit.board net flow
  pub history : events ≡ audit.history
  pub replayed : IsReplayedTo net events flow
