-- Boards whose turns may be written down, as the boards of this crate hold them.
use Rattle.std.specs.Prelude.{◌≡◌, ℕ, ◌≤◌, Bool, true, List, [], ◌∷◌, ◌++◌, if◌then◌else◌}
use Rattle.closure_net.specs.Network.{NetView}
use Rattle.machine_law.specs.declared.events.Event.{Event}
use Rattle.machine_law.specs.Steps.{next_event}
use Rattle.boards.specs.Runs.{AreTurnsTo}
use Rattle.boards.specs.Boards.{BoardView, shown_state, IsTurnBoard, IsOpened}
use Rattle.boards.specs.Ends.{GoesOn}
use Rattle.boards.specs.declared.turn.Turn.{Turn}
use Rattle.boards.specs.declared.turn.Turn.TheVariants.{Stepped, Idle as Unserved, Ended}

-- a board, the events that were written down, whether any are, and how many there is memory for
pub record RecordView : Type 0 where
  pub board : BoardView
  pub events : List Event
  pub records : Bool
  pub room : ℕ

abbrev pub record_view : BoardView → List Event → Bool → ℕ → RecordView
record_view board events records room = record { board = board; events = events; records = records; room = room }

-- turns alone made its steps, and where they are written down these are they; there is memory for as many as there is
-- room for
pub record RecordsTurns (r : RecordView) (capacity : ℕ) : Type 0 where
  pub turns : IsTurnBoard r.board
  pub made : r.records ≡ true → AreTurnsTo r.board.net r.events (shown_state r.board)
  pub reserved : r.room ≤ capacity

-- as it opens over a net
pub record IsRecordOpened (net : NetView) (asked : Bool) (most : ℕ) (r : RecordView) : Type 0 where
  pub board : IsOpened net r.board
  pub events : r.events ≡ []
  pub records : r.records ≡ asked
  pub room : r.room ≡ most

-- what is written down after a turn, where this is the event of the step that it made
abbrev pub written_by : Bool → List Event → Event → Turn → List Event
written_by records events event (Stepped block more) = if records then events ++ event ∷ [] else events
written_by records events event Unserved = events
written_by records events event (Ended end) = events

-- what is written down after a turn at this board, where the step was the next one of its block
abbrev pub events_after : RecordView → Turn → List Event
events_after r (Stepped block more) = written_by r.records r.events
    (next_event r.board.net (shown_state r.board) block) (Stepped block more)
events_after r Unserved = r.events
events_after r (Ended end) = r.events

-- a turn leaves this board, and writes down the step that it made
abbrev pub Writes : RecordView → Turn → RecordView → Type 0
Writes old turn new = new ≡ record old { board = new.board; events = events_after old turn }

-- what is written down after all of these further turns
abbrev pub written_after : Bool → List Event → List Event → List Event
written_after records events further = if records then events ++ further else events

-- The run goes on over the same net, with at most so many steps, and is written down as before: the further turns, and
-- no others.
pub record RecordGoesOn (old new : RecordView) (limit : ℕ) : Type 0 where
  pub board : GoesOn old.board new.board limit
  pub events : new.events ≡ written_after old.records old.events board.events
  pub records : new.records ≡ old.records
  pub room : new.room ≡ old.room
