-- The steps of the machine (Hong 2008) as what a block's operation leads to, and runs. `Table` has the same by the kind
-- of step.
use Rattle.std.specs.Prelude.{◌≡◌, ℕ, ◌+◌, ◌<◌, Option, Some, None, List, [], ◌∷◌, length, slice_get}
use Rattle.ordered_group.specs.Amount.{Amount, zero_amount, plus, minus, lesser_amount}
use Rattle.closure_net.specs.Prelude.{NetView, ports}
use Rattle.closure_net.specs.declared.port.Port.{Port}
use Rattle.closure_net.specs.declared.port.PortKind.{PortKind}
use Rattle.closure_net.specs.declared.port.PortKind.TheVariants.{Sink, Forward, Backward, Source}
use Rattle.machine_law.specs.declared.events.Event.{Event}
use Rattle.machine_law.specs.declared.events.Kind.{Kind}
use Rattle.machine_law.specs.declared.events.Kind.TheVariants.{ReadExcess, ReadCapacity, ReadLabel, TakeCapacity}
use Rattle.machine_law.specs.declared.events.Kind.TheVariants.{GiveCapacity, TakeExcess, GiveExcess, RaiseLabel}
use Rattle.machine_law.specs.declared.operations.Best.{Best}
use Rattle.machine_law.specs.declared.operations.Operation.{Operation}
use Rattle.machine_law.specs.declared.operations.Operation.TheVariants.{Idle, Scan, PushDue, TakeDue, GiveDue, RaiseDue}
use Rattle.machine_law.specs.States.{State, with_value_at, opening}
use Rattle.machine_law.specs.Residual.{capacity, end_label}
use Rattle.machine_law.specs.Reads.{operation_begun_with, after_capacity, after_label}

-- ---- which kind of step is next

-- at a port whose capacity isn't read: its capacity, but for a forward port, which is unlimited
abbrev pub read_kind : PortKind → Kind
read_kind Forward = ReadLabel
read_kind _ = ReadCapacity

-- which kind of step reads at a place of the list of ports
abbrev pub read_kind_at : Option Port → Kind
read_kind_at None = ReadLabel
read_kind_at (Some port) = read_kind port.kind

-- where a push over a port is due
abbrev pub push_kind : PortKind → Kind
push_kind Forward = GiveCapacity
push_kind _ = TakeCapacity

-- the kind that is next for b, which has this operation
abbrev pub next_of : NetView → ℕ → Operation Amount → Kind
next_of net b Idle = ReadExcess
next_of net b (Scan have place None best) = read_kind_at (slice_get (ports net b) place)
next_of net b (Scan have place (Some read) best) = ReadLabel
next_of net b (PushDue have best) = push_kind best.port.kind
next_of net b (TakeDue amount port) = TakeExcess
next_of net b (GiveDue amount port) = GiveExcess
next_of net b (RaiseDue have best) = RaiseLabel

-- the kind of step that is next for b
abbrev pub next_kind : NetView → State → ℕ → Kind
next_kind net s b = next_of net b (s.operation b)

-- the event of the step that is next for b
abbrev pub next_event : NetView → State → ℕ → Event
next_event net s b = record { block = b; kind = next_kind net s b }

-- ---- what a step leaves

-- every step gives the block an operation, and adds one to the number of steps
abbrev pub with_operation : State → ℕ → Operation Amount → State
with_operation s b operation = record s { operation = with_value_at s.operation b operation; steps = s.steps + 1 }

-- the operation after a read at a port whose capacity isn't read: of its capacity, or of the label beyond a forward one
abbrev pub after_look_by : NetView → State → ℕ → Amount → ℕ → Option (Best Amount) → Port → PortKind → Operation Amount
after_look_by net s b have place best port Forward = after_label (length (ports net b)) (s.label b) have place best
    zero_amount port (end_label net s port)
after_look_by net s b have place best port _ = after_capacity (length (ports net b)) (s.label b) have place best
    (capacity net s b port)

-- the operation after a read at a place of the list of ports: none where the list has no such place
abbrev pub after_look : NetView → State → ℕ → Amount → ℕ → Option (Best Amount) → Option Port → Operation Amount
after_look net s b have place best None = Idle
after_look net s b have place best (Some port) = after_look_by net s b have place best port port.kind

-- the operation after a read of the label beyond a port whose capacity was read
abbrev pub after_label_at : NetView → State → ℕ → Amount → ℕ → Option (Best Amount) → Amount → Option Port
    → Operation Amount
after_label_at net s b have place best read None = Idle
after_label_at net s b have place best read (Some port) = after_label (length (ports net b)) (s.label b) have place
    best read port (end_label net s port)

-- the amount of a push over a port of this kind: what there is, at most the capacity that was read
abbrev pub push_amount : Amount → PortKind → Amount → Amount
push_amount have Forward read = have
push_amount have _ read = lesser_amount have read

-- the capacity step of a push of d over a port of this kind
abbrev pub after_push_by : State → ℕ → Amount → Port → PortKind → State
after_push_by s b d port Sink = record (with_operation s b (TakeDue d port))
    { sink = with_value_at s.sink b (plus (s.sink b) d) }
after_push_by s b d port Forward = record (with_operation s b (TakeDue d port))
    { flow = with_value_at s.flow port.slot (plus (s.flow port.slot) d) }
after_push_by s b d port Backward = record (with_operation s b (TakeDue d port))
    { flow = with_value_at s.flow port.slot (minus (s.flow port.slot) d) }
after_push_by s b d port Source = record (with_operation s b (TakeDue d port))
    { source = with_value_at s.source b (minus (s.source b) d) }

abbrev pub after_push : State → ℕ → Amount → Port → State
after_push s b d port = after_push_by s b d port port.kind

-- d is taken out of the excess of b
abbrev pub after_take : State → ℕ → Amount → Port → State
after_take s b d port = record (with_operation s b (GiveDue d port))
    { excess = with_value_at s.excess b (minus (s.excess b) d) }

-- d arrives over a port of this kind
abbrev pub after_give_by : State → ℕ → Amount → Port → PortKind → State
after_give_by s b d port Sink = record (with_operation s b Idle) { at_sink = plus s.at_sink d }
after_give_by s b d port Source = record (with_operation s b Idle) { at_source = plus s.at_source d }
after_give_by s b d port _ = record (with_operation s b Idle)
    { excess = with_value_at s.excess port.other (plus (s.excess port.other) d) }

abbrev pub after_give : State → ℕ → Amount → Port → State
after_give s b d port = after_give_by s b d port port.kind

-- b rises to one above the label that was read at the best port
abbrev pub after_raise : State → ℕ → Best Amount → State
after_raise s b best = record (with_operation s b Idle) { label = with_value_at s.label b (best.label + 1) }

-- the state after the step that is next for b, which has this operation
abbrev pub advance_by : NetView → State → ℕ → Operation Amount → State
-- ReadExcess
advance_by net s b Idle = with_operation s b (operation_begun_with (s.excess b))
-- ReadCapacity, or ReadLabel beyond a forward port
advance_by net s b (Scan have place None best) = with_operation s b
    (after_look net s b have place best (slice_get (ports net b) place))
-- ReadLabel
advance_by net s b (Scan have place (Some read) best) = with_operation s b
    (after_label_at net s b have place best read (slice_get (ports net b) place))
-- TakeCapacity or GiveCapacity
advance_by net s b (PushDue have best) = after_push s b (push_amount have best.port.kind best.capacity) best.port
-- TakeExcess
advance_by net s b (TakeDue d port) = after_take s b d port
-- GiveExcess
advance_by net s b (GiveDue d port) = after_give s b d port
-- RaiseLabel
advance_by net s b (RaiseDue have best) = after_raise s b best

-- the state after the step that is next for b
abbrev pub advance : NetView → State → ℕ → State
advance net s b = advance_by net s b (s.operation b)

-- ---- steps and runs

-- a step from s to t
pub record Step (net : NetView) (s : State) (e : Event) (t : State) : Type 0 where
  pub block : e.block < length net.worths
  pub kind : next_kind net s e.block ≡ e.kind
  pub after : t ≡ advance net s e.block

-- a list of steps, one after the other, of any blocks in any order
abbrev pub Run : NetView → State → List Event → State → Type 0
Run net s [] t = t ≡ s
Run net s (e ∷ es) t = (u : State) × Step net s e u × Run net u es t

-- a run from the opening leads to the state
pub record IsStateOfRun (net : NetView) (s : State) : Type 0 where
  pub events : List Event
  pub run : Run net (opening net) events s

-- the step reads no excess that is zero
abbrev pub ReadsNoZero : State → Event → Type 0
ReadsNoZero s e = e.kind ≡ ReadExcess → ¬ (s.excess e.block ≡ zero_amount)

-- A run in which no ReadExcess sees zero, so only a block with excess begins an operation, and in which the state after
-- each step is one that is allowed.
abbrev pub ActiveRun : (State → Type 0) → NetView → State → List Event → State → Type 0
ActiveRun allowed net s [] t = t ≡ s
ActiveRun allowed net s (e ∷ es) t = (u : State) × Step net s e u × ReadsNoZero s e × allowed u
    × ActiveRun allowed net u es t

-- such a run from the opening leads to the state
pub record IsStateOfActiveRun (allowed : State → Type 0) (net : NetView) (s : State) : Type 0 where
  pub events : List Event
  pub run : ActiveRun allowed net (opening net) events s
