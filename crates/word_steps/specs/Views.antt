-- What a seat's view shows of the state, and the rule that holds between any two operations on the words.
use Rattle.std.specs.Prelude.{◌≡◌, ℕ, ◌<◌, ◌%◌, ◌^◌, ◌==◌, true, false, if◌then◌else◌, List, [], ◌∷◌, ◌++◌, length}
use Rattle.std.specs.Prelude.{replicate, slice_index}
use Rattle.std.specs.List.{filter}
use mathlib.Core.Option.{some}
use lib.ListN.{get_elem?}
use Rattle.atomic_table.specs.Table.{State}
use Rattle.ordered_group.specs.Prelude.{AtMost, positive, negative, amount_at}
use Rattle.prec_file.specs.Rests.{from_at}
use Rattle.closure_net.specs.Network.{NetView, IsNet}
use Rattle.machine_law.specs.declared.events.Event.{Event}
use Rattle.machine_law.specs.declared.operations.Operation.{Operation}
use Rattle.machine_law.specs.declared.operations.Operation.TheVariants.{Idle}
use Rattle.machine_law.specs.Prelude.{operation_as, opening, Run, all_given}
use Rattle.machine_law.specs.States as law
use Rattle.word_steps.specs.declared.view.View.{View}
use Rattle.word_steps.specs.Layout.{units, count, flow_at, Cells}

-- the operation of b that v shows
abbrev pub operation_in_view : View → ℕ → Operation ℕ
operation_in_view v b = if v.block == b then v.operation else Idle

-- the view is of a seat at work, and block b is one that the seat serves
pub record IsSeatsOwn (v : View) (b : ℕ) : Type 0 where
  pub live : v.live ≡ true
  pub serves : b % v.workers ≡ v.number

-- the seat j has the view v
pub record Sees (net : NetView) (t : law.State) (owner : ℕ → ℕ) (ws : List ℕ) (j : ℕ) (v : View) : Type 0 where
  pub owns : (b : ℕ) → b < count net → IsSeatsOwn v b → owner b ≡ j
  pub operation : (b : ℕ) → b < count net → IsSeatsOwn v b → t.operation b ≡ operation_as units (operation_in_view v b)
  pub label : (b : ℕ) → b < count net → IsSeatsOwn v b → v.stopped ≡ false → t.label b ≡ slice_index v.labels b
  pub flow : (k : ℕ) → k < length net.pairs → IsSeatsOwn v (from_at net.pairs k) → v.stopped ≡ false
      → slice_index ws (flow_at net k) < 2 ^ 63

-- the steps of b
abbrev pub of_block : ℕ → List Event → List Event
of_block b es = filter (λ e. e.block == b) es

-- the run's steps at a seat's own blocks are those that the seat made there, in their order, and it made none elsewhere
pub record IsMadeBy (net : NetView) (es : List Event) (v : View) : Type 0 where
  pub own : (b : ℕ) → b < count net → IsSeatsOwn v b → of_block b es ≡ of_block b v.made
  pub other : (b : ℕ) → b < count net → ¬ (IsSeatsOwn v b) → of_block b v.made ≡ []

-- at each seat, the run's steps at its own blocks are those that it made
abbrev pub IsMade : NetView → List Event → List View → Type 0
IsMade net es vs = (j : ℕ) (v : View) → get_elem? vs j ≡ some v → IsMadeBy net es v

-- The rule that the words keep between any two operations on them: they show the state of some run of the machine over
-- the net, of which each seat sees what its own blocks do and made their steps.
pub record IsRuled (net : NetView) (s : State (Unit {0}) View) : Type 0 where
  pub events : List Event
  pub machine : law.State
  pub owner : ℕ → ℕ
  pub is_net : IsNet net
  pub small : AtMost (all_given net) (units 9223372036854775807)
  pub run : Run net (opening net) events machine
  pub made : IsMade net events s.views
  pub cells : Cells net machine s.words
  pub seats : (j : ℕ) (v : View) → get_elem? s.views j ≡ some v → Sees net machine owner s.words j v

-- the first seat serves all blocks
abbrev pub first_view : NetView → View
first_view net = record {
  net = net;
  live = true;
  number = 0;
  workers = 1;
  labels = replicate (count net) 0;
  block =
      0;
  operation = Idle;
  stopped = false;
  made = [];
  loaded = [];
}

-- ---- the table's beginning
abbrev pub start_words : List ℕ → List ℕ → ℕ → ℕ → List ℕ
start_words gain loss n m = (0 ∷ 0 ∷ []) ++ (gain ++ (replicate n 0 ++ (gain ++ (loss ++ replicate m 0))))

-- what each block can give and take, in units
pub record IsStart (net : NetView) (gain loss : List ℕ) : Type 0 where
  pub is_net : IsNet net
  pub small : AtMost (all_given net) (units 9223372036854775807)
  pub gains : length gain ≡ count net
  pub losses : length loss ≡ count net
  pub positive : (b : ℕ) → b < count net → positive (amount_at net.worths b) ≡ units (slice_index gain b)
  pub negative : (b : ℕ) → b < count net → negative (amount_at net.worths b) ≡ units (slice_index loss b)
