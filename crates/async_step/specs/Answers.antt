-- What the calls on a state answer.
use Rattle.std.specs.Prelude.{◌≡◌, ℕ, ◌+◌, ◌<◌, ◌≤◌, ◌^◌, Option, Some, None, List, length, take, slice_get, Result}
use Rattle.std.specs.Prelude.{MatchResult}
use Rattle.ordered_group.specs.Amount.{Amount, zero_amount, Below, FitsPair}
use Rattle.closure_net.specs.Prelude.{NetView, ports}
use Rattle.closure_net.specs.declared.port.Port.{Port}
use Rattle.closure_net.specs.declared.port.PortKind.{PortKind}
use Rattle.closure_net.specs.declared.port.PortKind.TheVariants.{Forward}
use Rattle.machine_law.specs.declared.events.Event.{Event}
use Rattle.machine_law.specs.declared.operations.Operation.{Operation}
use Rattle.machine_law.specs.declared.operations.Operation.TheVariants.{Idle, Scan, PushDue, TakeDue, GiveDue, RaiseDue}
use Rattle.machine_law.specs.Prelude.{State, opening, room, capacity, end_label, Step, Run, IsStateOfRun, next_kind}
use Rattle.machine_law.specs.Prelude.{advance, push_amount}
use Rattle.async_step.specs.declared.limits.TheConstants.{MOST_STEPS}
use Rattle.async_step.specs.Views.{StateView, state_of}
use Rattle.async_step.specs.declared.saw.Saw.{Saw}
use Rattle.async_step.specs.declared.saw.Saw.TheVariants.{Excess, Capacity, Label, Moved, Raised}
use Rattle.async_step.specs.declared.refusals.ReplayFault.{ReplayFault}
use Rattle.async_step.specs.declared.refusals.ReplayFault.TheVariants.{Refused, NoMemory}
use Rattle.async_step.specs.declared.refusals.StepRefusal.{StepRefusal}
use Rattle.async_step.specs.declared.refusals.StepRefusal.TheVariants.{NoSuchBlock, OutOfTurn, TooLarge, TooManySteps}

-- ---- what a step tells

-- with each amount replaced by what f says of it
abbrev pub saw_as : {N M : Type 0} → (N → M) → Saw N → Saw M
saw_as f (Excess amount) = Excess (f amount)
saw_as f (Capacity amount) = Capacity (f amount)
saw_as f (Label label) = Label label
saw_as f (Moved amount) = Moved (f amount)
saw_as f (Raised label) = Raised label

-- at a port of this kind whose capacity isn't read: its capacity, or the label beyond a forward one
abbrev pub answer_by : NetView → State → ℕ → Port → PortKind → Saw Amount
answer_by net s b port Forward = Label (end_label net s port)
answer_by net s b port _ = Capacity (capacity net s b port)

-- at a place of the list of ports: what a read of that port answers, or the label 0 where the list has no such place
abbrev pub answer_at : NetView → State → ℕ → Option Port → Saw Amount
answer_at net s b None = Label 0
answer_at net s b (Some port) = answer_by net s b port port.kind

-- the label beyond a port whose capacity was read
abbrev pub answer_beyond : NetView → State → Option Port → Saw Amount
answer_beyond net s None = Label 0
answer_beyond net s (Some port) = Label (end_label net s port)

-- by the operation of b
abbrev pub answer_of : NetView → State → ℕ → Operation Amount → Saw Amount
answer_of net s b Idle = Excess (s.excess b)
answer_of net s b (Scan have place None best) = answer_at net s b (slice_get (ports net b) place)
answer_of net s b (Scan have place (Some read) best) = answer_beyond net s (slice_get (ports net b) place)
answer_of net s b (PushDue have best) = Moved (push_amount have best.port.kind best.capacity)
answer_of net s b (TakeDue amount port) = Moved amount
answer_of net s b (GiveDue amount port) = Moved amount
answer_of net s b (RaiseDue have best) = Raised (best.label + 1)

-- what the step that is next for b saw, moved or raised
abbrev pub answer : NetView → State → ℕ → Saw Amount
answer net s b = answer_of net s b (s.operation b)

-- ---- what fits

-- every number of the state fits its type, also what each block may still give the sink
pub record Fits (net : NetView) (s : State) : Type 0 where
  pub excess : (b : ℕ) → FitsPair (s.excess b)
  pub label : (b : ℕ) → s.label b < 2 ^ 64
  pub source : (b : ℕ) → FitsPair (s.source b)
  pub sink : (b : ℕ) → FitsPair (s.sink b)
  pub room : (b : ℕ) → FitsPair (room net s b)
  pub flow : (k : ℕ) → FitsPair (s.flow k)
  pub at_source : FitsPair s.at_source
  pub at_sink : FitsPair s.at_sink

-- the state is one of a run over the net, and all its numbers fit
pub record IsStateOf (net : NetView) (v : StateView) : Type 0 where
  pub blocks : length v.operation ≡ length net.worths
  pub pairs : length v.flow ≡ length net.pairs
  pub reached : IsStateOfRun net (state_of v)
  pub fits : Fits net (state_of v)

-- ---- steps and refusals

-- the state goes over to this one, in one step
pub record GoesTo (net : NetView) (old : StateView) (after : State) (new : StateView) : Type 0 where
  pub state : state_of new ≡ after
  pub counted : old.steps < MOST_STEPS
  pub fits : Fits net (state_of new)
  pub blocks : length new.operation ≡ length old.operation
  pub pairs : length new.flow ≡ length old.flow

-- why it can't
abbrev pub CannotGo : NetView → StateView → State → StepRefusal → Type 0
CannotGo net old after TooLarge = ¬ (Fits net after)
CannotGo net old after TooManySteps = Fits net after × (MOST_STEPS ≤ old.steps)
CannotGo net old after _ = ⊥

-- the state stays as it is, since it can't go over to the later one
pub record StateStays (net : NetView) (old : StateView) (after : State) (new : StateView) (refusal : StepRefusal) :
    Type 0 where
  pub same : new ≡ old
  pub why : CannotGo net old after refusal

-- the state goes over to this one, or stays where it can't
abbrev pub Leads : {X : Type 0} → NetView → StateView → State → StateView → Result X StepRefusal → Type 0
Leads net old after new result = MatchResult result (λ x. GoesTo net old after new)
    (λ e. StateStays net old after new e)

-- the state goes over to this one, and the answer tells what was seen, moved or raised; or the state stays where it
-- can't
abbrev pub LeadsTelling : {N : Type 0} → (N → Amount) → NetView → StateView → State → Saw Amount → StateView
    → Result (Saw N) StepRefusal → Type 0
LeadsTelling f net old after tells new result = MatchResult result (λ saw. GoesTo net old after new
    × (saw_as f saw ≡ tells)) (λ e. StateStays net old after new e)

-- one step was made, and this is what it saw, moved or raised
pub record IsStepTaken (net : NetView) (old : StateView) (event : Event) (new : StateView) (saw : Saw Amount) : Type 0
  where
    pub step : Step net (state_of old) event (state_of new)
    pub saw_is : saw ≡ answer net (state_of old) event.block
    pub counted : old.steps < MOST_STEPS
    pub state : IsStateOf net new

-- the event's step is the one that is next for its block
pub record IsNext (net : NetView) (s : State) (event : Event) : Type 0 where
  pub block : event.block < length net.worths
  pub kind : next_kind net s event.block ≡ event.kind

-- the refusal stands, and none that comes before it
abbrev pub RefusalStands : NetView → State → Event → StepRefusal → Type 0
RefusalStands net s event NoSuchBlock = length net.worths ≤ event.block
RefusalStands net s event (OutOfTurn kind) = (event.block < length net.worths) × (next_kind net s event.block ≡ kind)
    × ¬ (kind ≡ event.kind)
RefusalStands net s event TooLarge = IsNext net s event × ¬ (Fits net (advance net s event.block))
RefusalStands net s event TooManySteps = IsNext net s event × Fits net (advance net s event.block)
    × (MOST_STEPS ≤ s.steps)

-- a refused step: it changes nothing
pub record IsStepRefused (net : NetView) (old : StateView) (event : Event) (new : StateView) (refusal : StepRefusal) :
    Type 0 where
  pub same : new ≡ old
  pub stands : RefusalStands net (state_of old) event refusal

-- block b has excess and no operation
pub record IsWaiting (s : State) (b : ℕ) : Type 0 where
  pub excess : Below zero_amount (s.excess b)
  pub idle : s.operation b ≡ Idle

-- the event at this place, counted from 1, is refused in the state that the ones before it lead to
pub record IsRefusedAt (net : NetView) (events : List Event) (place : ℕ) (refusal : StepRefusal) : Type 0 where
  pub before : ℕ
  pub counted : place ≡ before + 1
  pub state : State
  pub run : Run net (opening net) (take before events) state
  pub event : Event
  pub present : slice_get events before ≡ Some event
  pub stands : RefusalStands net state event refusal

-- why the events can't be made one after the other
abbrev pub ReplayFaultStands : NetView → List Event → ReplayFault → Type 0
ReplayFaultStands net events (Refused place refusal) = IsRefusedAt net events place refusal
ReplayFaultStands net events NoMemory = Unit {0}
