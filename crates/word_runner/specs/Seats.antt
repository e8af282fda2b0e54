-- What a seat's steps on the words ask and answer.
use Rattle.std.specs.Prelude.{◌≡◌, ℕ, ◌+◌, ◌<◌, ◌⊎◌, ◌%◌, ◌^◌, ◌==◌, Bool, true, false, not, List, [], ◌∷◌, ◌++◌}
use Rattle.std.specs.Prelude.{length, slice_index}
use Rattle.atomic_table.specs.declared.shared.Seat.{Seat}
use Rattle.atomic_table.specs.declared.shared.Shared.{Shared}
use Rattle.ordered_group.specs.Prelude.{minus, negative, amount_at}
use Rattle.closure_net.specs.Network.{NetView, FlowView, FlowFits}
use Rattle.machine_law.specs.Prelude.{all_given, is_idle}
use Rattle.machine_law.specs.declared.operations.Operation.{Operation}
use Rattle.machine_law.specs.declared.operations.Operation.TheVariants.{Idle}
use Rattle.word_steps.specs.declared.view.View.{View}
use Rattle.word_steps.specs.declared.table.Rule.{Rule}
use Rattle.word_runner.specs.declared.turns.WordTurn.{WordTurn}
use Rattle.word_runner.specs.declared.turns.WordTurn.TheVariants.{Stepped, TooLarge}
use mathlib.Core.Option.{some}
use Rattle.word_steps.specs.Prelude.{units, source_at, flow_at, room_at, count, width, RaisesTooFar, SomeFlowIsTooLarge}
use Rattle.word_steps.specs.Prelude.{SomeLabelIsTooLarge, IsPlaced, event_of_operation, HasTurned, IsSeat}

-- v became w by a load of the word i, which had x
abbrev pub HasLoaded : ℕ → View → ℕ → View → Type 0
HasLoaded i v x w = w ≡ record v { loaded = v.loaded ++ (i, x) ∷ [] }

-- the words, the net whose state they show, what its source gives in all, and how many workers there are
pub record WordsView : Type 0 where
  pub shared : Shared (Unit {0}) View NetView Rule
  pub cut : NetView
  pub total : ℕ
  pub workers : ℕ

-- what holds of them
pub record IsWords (w : Shared (Unit {0}) View NetView Rule) (cut : NetView) (total workers : ℕ) : Type 0 where
  pub key : w.key ≡ cut
  pub words : w.table_id.words ≡ width cut
  pub slots : w.table_id.slots ≡ 0
  pub all : all_given cut ≡ units total
  pub small : total < 2 ^ 63
  pub some : 0 < workers
  pub few : workers < 3

-- a worker's seat as its own numbers
pub record Own : Type 0 where
  pub place : Seat (Unit {0}) View
  pub labels : List ℕ
  pub block : ℕ
  pub operation : Operation ℕ
  pub stopped : Bool

-- what a seat's own numbers are
pub record IsTold (s : Seat (Unit {0}) View) (labels : List ℕ) (block : ℕ) (operation : Operation ℕ)
    (stopped : Bool) : Type 0 where
  pub labels_are : s.me.0.labels ≡ labels
  pub block_is : s.me.0.block ≡ block
  pub operation_is : s.me.0.operation ≡ operation
  pub wide : length labels ≡ count s.me.0.net
  pub runs : stopped ≡ false → s.me.0.stopped ≡ false
  pub placed : IsPlaced s.me.0.net block operation
  pub free : s.me.1 ≡ []
  pub flow : stopped ≡ true → SomeFlowIsTooLarge s.me.0.net ⊎ SomeLabelIsTooLarge s.me.0.net
  pub label : RaisesTooFar operation → SomeLabelIsTooLarge s.me.0.net

-- v became w by the step of b
abbrev pub IsTurnOf : ℕ → View → View → Type 0
IsTurnOf b v w = (x : ℕ) × HasTurned b v x w

-- Why a turn is too large: the seat had stopped; or its next step would raise a label too far, and isn't made; or its
-- push brought a word to 2^63 or more.
pub data IsTooLarge (b : ℕ) (v : View) (stopped : Bool) (w : View) : Type 0 where
  had_stopped : stopped ≡ true → w ≡ v → IsTooLarge b v stopped w
  raises : RaisesTooFar v.operation → w ≡ v → IsTooLarge b v stopped w
  pushed : IsTurnOf b v w → w.stopped ≡ true → IsTooLarge b v stopped w

-- What a turn answers. A step was made where neither the seat had stopped, nor the step would have raised a label too
-- far, nor its push brought a word to 2^63 or more.
abbrev pub IsWordTurn : ℕ → View → Operation ℕ → Bool → View → Bool → WordTurn → Type 0
IsWordTurn b v o stopped w stopped' (Stepped event more) = (stopped ≡ false) × (stopped' ≡ false) × ¬ (RaisesTooFar o)
    × (w.stopped ≡ false) × IsTurnOf b v w × (event ≡ event_of_operation v.net b v.operation)
    × (more ≡ not (is_idle w.operation))
IsWordTurn b v o stopped w stopped' TooLarge = (stopped' ≡ true) × IsTooLarge b v stopped w

-- v became w by a load of each arrival, and the answer is whether they sum to the total
pub record HasArrived (v w : View) (total : ℕ) (answer : Bool) : Type 0 where
  pub source : ℕ
  pub sink : ℕ
  pub between : View
  pub first : HasLoaded 0 v source between
  pub second : HasLoaded 1 between sink w
  pub is : answer ≡ (source + sink == total)

-- the flow is the one that the words have
pub record IsFlowOfWords (net : NetView) (ws : List ℕ) (flow : FlowView) : Type 0 where
  pub fits : FlowFits net flow
  pub source : (b : ℕ) → b < count net → amount_at flow.source b ≡ units (slice_index ws (source_at net b))
  pub rest : (k : ℕ) → k < length net.pairs → amount_at flow.rest k ≡ units (slice_index ws (flow_at net k))
  pub sink : (b : ℕ) → b < count net → amount_at flow.sink b ≡ minus (negative (amount_at net.worths b))
      (units (slice_index ws (room_at net b)))

-- the seat serves the blocks of this number among so many workers
pub record IsWorker (number workers : ℕ) (v : View) : Type 0 where
  pub live : v.live ≡ true
  pub number_is : v.number ≡ number
  pub workers_are : v.workers ≡ workers

-- the seat serves these words, and is at the block `at` of its round
pub record IsServing (w : Shared (Unit {0}) View NetView Rule) (number workers : ℕ) (s : Own) (at : ℕ) : Type 0 where
  pub seat : IsSeat w s.place
  pub told : IsTold s.place s.labels s.block s.operation s.stopped
  pub worker : IsWorker number workers s.place.me.0
  pub own : at % workers ≡ number
  pub here : (s.operation ≡ Idle) ⊎ ((s.block ≡ at) × (at < count w.key))

-- the seat serves these words, wherever it is
abbrev pub IsServed : Shared (Unit {0}) View NetView Rule → ℕ → ℕ → Own → Type 0
IsServed w number workers s = IsSeat w s.place × IsTold s.place s.labels s.block s.operation s.stopped
    × IsWorker number workers s.place.me.0
