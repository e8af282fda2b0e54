-- What a whole run by workers answers whose steps are all written down. `AreTurnsTo` says of events that they are a run
-- from the opening state of a net in which no ReadExcess sees zero and after each step all numbers fit; such a run
-- leads to one state alone.
use Rattle.std.specs.Prelude.{◌≡◌, ℕ, ◌<◌, ◌≤◌, min, Bool, true, false, List, [], length}
use Rattle.closure_net.specs.Network.{NetView, FlowView}
use Rattle.machine_law.specs.declared.events.Event.{Event}
use Rattle.machine_law.specs.declared.events.TheConstants.{MOST_EVENTS}
use Rattle.machine_law.specs.States.{State, IsQuiet}
use Rattle.boards.specs.Prelude.{SomeNextOverflows, AreTurnsTo, IsReplayedTo, shown_state, AuditView, IsAudited}
use Rattle.workers.specs.Runs.{most_steps, Settles}
use Rattle.workers.specs.Solving.{AreBadWorkers}
use Rattle.workers.specs.declared.solving.SolveFault.{SolveFault}
use Rattle.workers.specs.declared.solving.SolveFault.TheVariants.{BadWorkers, Unsettled, TooLarge, StrangerNet}
use Rattle.workers.specs.declared.solving.SolveFault.TheVariants.{NoMemory, NoThread}
use Rattle.workers.specs.declared.auditing.AuditEnd.{AuditEnd}
use Rattle.workers.specs.declared.auditing.AuditEnd.TheVariants.{NoFlow, HistoryFull}

-- the most events of a history with this room: no more than a history may have
abbrev pub most_room : ℕ → ℕ
most_room room = min room MOST_EVENTS

-- The history is a run over the net that the limit and the room allow, and leads to this state.
pub record IsHistory (net : NetView) (limit room : ℕ) (history : List Event) (state : State) : Type 0 where
  pub turns : AreTurnsTo net history state
  pub within : length history ≤ most_steps limit
  pub few : length history ≤ most_room room

-- the history is such a run, to some state
abbrev pub IsSomeHistory : NetView → ℕ → ℕ → List Event → Type 0
IsSomeHistory net limit room history = (state : State) × IsHistory net limit room history state

-- The history is a run whose replay leads to a quiet state, and the flow is that state's: the run that it tells of has
-- settled with it.
pub record IsAudit (net : NetView) (limit room : ℕ) (flow : FlowView) (history : List Event) : Type 0 where
  pub state : State
  pub is_history : IsHistory net limit room history state
  pub replayed : IsReplayedTo net history flow
  pub settles : Settles net limit flow (length history)

-- the history has exactly as many events as the limit allows, and leads to a state that isn't quiet
pub record IsCutOffAfter (net : NetView) (limit room : ℕ) (history : List Event) : Type 0 where
  pub state : State
  pub is_history : IsHistory net limit room history state
  pub counted : length history ≡ most_steps limit
  pub unquiet : ¬ (IsQuiet net state)

-- the history leads to a state in which the next step of some block overflows
pub record OverflowsAfter (net : NetView) (limit room : ℕ) (history : List Event) : Type 0 where
  pub state : State
  pub is_history : IsHistory net limit room history state
  pub next : SomeNextOverflows net state

-- the history has exactly as many events as there is room for, fewer than the limit allows, and leads to a state that
-- isn't quiet
pub record FillsItsRoom (net : NetView) (limit room : ℕ) (history : List Event) : Type 0 where
  pub state : State
  pub is_history : IsHistory net limit room history state
  pub full : length history ≡ most_room room
  pub below : length history < most_steps limit
  pub unquiet : ¬ (IsQuiet net state)

-- an audited board over the net, with at most the steps of the limit, and with the room that was asked for
pub record IsAuditLeft (net : NetView) (limit room : ℕ) (audit : AuditView) : Type 0 where
  pub audited : IsAudited audit
  pub net_is : audit.board.net ≡ net
  pub within : (shown_state audit.board).steps ≤ most_steps limit
  pub room_is : audit.room ≡ most_room room

-- Why there is no such board. The history is without an event, but where a worker couldn't be started: then it is a run
-- of the others, and nothing is said of how far it goes.
abbrev pub IsAuditLoss : NetView → ℕ → ℕ → AuditEnd → List Event → Type 0
IsAuditLoss net limit room (NoFlow StrangerNet) history = history ≡ []
IsAuditLoss net limit room (NoFlow NoMemory) history = history ≡ []
IsAuditLoss net limit room (NoFlow NoThread) history = IsSomeHistory net limit room history
IsAuditLoss net limit room _ history = ⊥

-- why the board of a run is lost that comes back as another's: where all workers were started nothing else is known to
-- be wrong
abbrev pub lost_by : Bool → SolveFault
lost_by true = StrangerNet
lost_by false = NoThread

-- why a run that has ended gives no flow
abbrev pub AuditRunFaultStands : NetView → ℕ → ℕ → AuditEnd → List Event → Type 0
AuditRunFaultStands net limit room (NoFlow Unsettled) history = IsCutOffAfter net limit room history
AuditRunFaultStands net limit room (NoFlow TooLarge) history = OverflowsAfter net limit room history
AuditRunFaultStands net limit room HistoryFull history = FillsItsRoom net limit room history
AuditRunFaultStands net limit room _ history = ⊥

-- Why a run gives no flow, and what its history is. Nothing is said of where a board comes back as another's, of
-- memory, or of threads.
abbrev pub AuditFaultStands : NetView → ℕ → ℕ → ℕ → AuditEnd → List Event → Type 0
AuditFaultStands net workers limit room (NoFlow BadWorkers) history = AreBadWorkers workers × (history ≡ [])
AuditFaultStands net workers limit room (NoFlow Unsettled) history = IsCutOffAfter net limit room history
AuditFaultStands net workers limit room (NoFlow TooLarge) history = OverflowsAfter net limit room history
AuditFaultStands net workers limit room (NoFlow StrangerNet) history = history ≡ []
AuditFaultStands net workers limit room (NoFlow NoMemory) history = history ≡ []
AuditFaultStands net workers limit room (NoFlow NoThread) history = IsSomeHistory net limit room history
AuditFaultStands net workers limit room HistoryFull history = FillsItsRoom net limit room history
