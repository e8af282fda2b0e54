-- What a step makes of a view, and which numbers are too large for a word.
use Rattle.std.specs.Prelude.{◌≡◌, ℕ, ◌+◌, ◌-◌, ◌<◌, ◌≤◌, ◌⊎◌, ◌^◌, Bool, true, false, if◌then◌else◌, nat_lt, List, []}
use Rattle.std.specs.Prelude.{◌∷◌, ◌++◌, length, slice_index, slice_set, Option, Some, None}
use Rattle.atomic_table.specs.Table.{State, Me, Step}
use Rattle.ordered_group.specs.Amount.{Amount, AtMost}
use Rattle.closure_net.specs.Prelude.{NetView, ports}
use Rattle.closure_net.specs.declared.port.PortKind.{PortKind}
use Rattle.closure_net.specs.declared.port.PortKind.TheVariants.{Forward}
use Rattle.machine_law.specs.declared.events.Event.{Event}
use Rattle.machine_law.specs.declared.operations.Best.{Best}
use Rattle.machine_law.specs.declared.operations.Operation.{Operation}
use Rattle.machine_law.specs.declared.operations.Operation.TheVariants.{Idle, Scan, PushDue, TakeDue, GiveDue, RaiseDue}
use Rattle.machine_law.specs.Prelude.{is_idle, operation_as, opening, IsPortOf, Run, next_of}
use Rattle.machine_law.specs.States as law
use Rattle.word_steps.specs.declared.view.View.{View}
use Rattle.word_steps.specs.Layout.{units, count}
use Rattle.word_steps.specs.StepWords.{after}
use Rattle.word_steps.specs.Views.{IsSeatsOwn}

abbrev pub Sat : Type 0
Sat = Me (Unit {0}) View

-- the block whose step is next at this word
abbrev pub block_of_view : View → ℕ → ℕ
block_of_view v i = if is_idle v.operation then i - 2 else v.block

-- the labels after the next step of block b, whose operation this is
abbrev pub labels_after : List ℕ → ℕ → Operation ℕ → List ℕ
labels_after labels b (RaiseDue have best) = slice_set labels b (best.label + 1)
labels_after labels b _ = labels

-- whether the word that a push raised has reached 2^63
abbrev pub is_word_overfull : PortKind → ℕ → ℕ → Bool
is_word_overfull Forward d x = nat_lt 9223372036854775807 (x + d)
is_word_overfull _ d x = false

abbrev pub stopped_after : Operation ℕ → ℕ → Bool
stopped_after (PushDue have best) x = is_word_overfull best.port.kind have x
stopped_after _ x = false

-- the event of the step that is next
abbrev pub event_of_operation : NetView → ℕ → Operation ℕ → Event
event_of_operation net b o = record { block = b; kind = next_of net b (operation_as units o) }

-- v after its next step, at b, where the word was x
abbrev pub view_after_turn : ℕ → View → ℕ → View
view_after_turn b v x = record v {
  labels = labels_after v.labels b v.operation;
  block = b;
  operation = after v.net b (slice_index v.labels b) v.operation x;
  stopped = stopped_after v.operation x;
  made = v.made ++ event_of_operation v.net b v.operation ∷ [];
}

-- the places and the ports of an operation of b are there
abbrev pub IsBestPlaced : NetView → ℕ → Option (Best ℕ) → Type 0
IsBestPlaced net b None = Unit {0}
IsBestPlaced net b (Some best) = IsPortOf net b best.port

abbrev pub IsPlaced : NetView → ℕ → Operation ℕ → Type 0
IsPlaced net b Idle = Unit {0}
IsPlaced net b (Scan have place read best) = (place < length (ports net b)) × IsBestPlaced net b best
IsPlaced net b (PushDue have best) = IsPortOf net b best.port
IsPlaced net b (TakeDue d port) = IsPortOf net b port
IsPlaced net b (GiveDue d port) = IsPortOf net b port
IsPlaced net b (RaiseDue have best) = IsPortOf net b best.port

-- the step would raise a label to 2^63 or more
abbrev pub RaisesTooFar : Operation ℕ → Type 0
RaisesTooFar (RaiseDue have best) = 2 ^ 63 ≤ best.label + 1
RaisesTooFar _ = ⊥

-- a run of the machine leads to a state in which the flow of a pair is 2^63 units or more
pub record SomeFlowIsTooLarge (net : NetView) : Type 0 where
  pub events : List Event
  pub machine : law.State
  pub run : Run net (opening net) events machine
  pub pair : ℕ
  pub known : pair < length net.pairs
  pub amount : AtMost (units 9223372036854775808) (machine.flow pair)

-- a run of the machine leads to a state in which the next step of a block raises its label to 2^63 or more
pub record SomeLabelIsTooLarge (net : NetView) : Type 0 where
  pub events : List Event
  pub machine : law.State
  pub run : Run net (opening net) events machine
  pub block : ℕ
  pub known : block < count net
  pub have : Amount
  pub best : Best Amount
  pub next : machine.operation block ≡ RaiseDue have best
  pub label : 2 ^ 63 ≤ best.label + 1

-- why a seat that has this view makes no more steps, where it makes none
pub record IsLargeBy (net : NetView) (stopped : Bool) (o : Operation ℕ) : Type 0 where
  pub flow : stopped ≡ true → SomeFlowIsTooLarge net
  pub label : RaisesTooFar o → SomeLabelIsTooLarge net

abbrev pub TurnsSeat : Step (Unit {0}) → Sat → ℕ → Sat → Type 0
TurnsSeat st m r m' = (m'.0 ≡ view_after_turn (block_of_view m.0 st.word) m.0 r)
    × IsPlaced m.0.net (block_of_view m.0 st.word) m'.0.operation × (m'.1 ≡ m.1)
    × IsLargeBy m.0.net m'.0.stopped m'.0.operation

-- v may make the next step of b
pub record CanTurn (v : View) (b : ℕ) : Type 0 where
  pub block : b < count v.net
  pub own : IsSeatsOwn v b
  pub runs : v.stopped ≡ false
  pub wide : length v.labels ≡ count v.net
  pub here : (v.operation ≡ Idle) ⊎ (v.block ≡ b)
