-- States as lists, and what is kept beside them.
use Rattle.std.specs.Prelude.{◌≡◌, ℕ, ◌<◌, ◌≤◌, Bool, not, ◌&&◌, ◌||◌, List, map, length, slice_index, slice_index_or}
use Rattle.fixed_worth.specs.declared.limits.TheConstants.{MOST_BLOCKS}
use Rattle.ordered_group.specs.Prelude.{Amount, is_zero, amount_at}
use Rattle.machine_law.specs.declared.operations.Operation.{Operation}
use Rattle.machine_law.specs.declared.operations.Operation.TheVariants.{Idle}
use Rattle.machine_law.specs.Prelude.{operation_as, is_idle, State, is_positive}
use Rattle.async_step.specs.Marks.{mark_at}

-- a state as its lists: an element for each block, and a flow for each pair
pub record StateView : Type 0 where
  pub excess : List Amount
  pub label : List ℕ
  pub source : List Amount
  pub sink : List Amount
  pub flow : List Amount
  pub operation : List (Operation Amount)
  pub at_source : Amount
  pub at_sink : Amount
  pub steps : ℕ

-- the operation of a block, none past the last
abbrev pub operation_at : List (Operation Amount) → ℕ → Operation Amount
operation_at operations b = slice_index_or operations b Idle

-- the state that the lists show
abbrev pub state_of : StateView → State
state_of v = record {
  excess = λ b. amount_at v.excess b;
  label = λ b. slice_index v.label b;
  source = λ b. amount_at v.source b;
  sink = λ b. amount_at v.sink b;
  flow = λ k. amount_at v.flow k;
  operation = λ b. operation_at v.operation b;
  at_source = v.at_source;
  at_sink = v.at_sink;
  steps = v.steps;
}

-- lists of values, as lists of amounts
abbrev pub view_of : {N : Type 0} → (N → Amount) → List N → List ℕ → List N → List N → List N → List (Operation N) → N
    → N → ℕ → StateView
view_of f excess label source sink flow operation at_source at_sink steps = record {
  excess = map f excess;
  label = label;
  source = map f source;
  sink = map f sink;
  flow = map f flow;
  operation = map (operation_as f) operation;
  at_source = f at_source;
  at_sink = f at_sink;
  steps = steps;
}

-- each list of blocks has the same length, which isn't great
pub record IsSized (v : StateView) : Type 0 where
  pub few : length v.operation ≤ MOST_BLOCKS
  pub excess : length v.excess ≡ length v.operation
  pub label : length v.label ≡ length v.operation
  pub source : length v.source ≡ length v.operation
  pub sink : length v.sink ≡ length v.operation

-- whether a block with this excess and operation is ready to begin one, and whether it is done for now
abbrev pub is_waiting : Amount → Operation Amount → Bool
is_waiting excess operation = is_idle operation && is_positive excess

abbrev pub is_busy : Amount → Operation Amount → Bool
is_busy excess operation = not (is_idle operation) || not (is_zero excess)

-- the marks are those of the first n numbers that pass the test
pub record IsMarked (test : ℕ → Bool) (n : ℕ) (marks : List Bool) : Type 0 where
  pub size : length marks ≡ n
  pub at : (b : ℕ) → b < n → mark_at marks b ≡ test b

-- the lists, with the blocks that are ready and those that are not done
pub record IsState (v : StateView) (ready undone : List Bool) : Type 0 where
  pub sized : IsSized v
  pub waiting : IsMarked (λ b. is_waiting (amount_at v.excess b) (operation_at v.operation b)) (length v.operation)
      ready
  pub busy : IsMarked (λ b. is_busy (amount_at v.excess b) (operation_at v.operation b)) (length v.operation) undone
