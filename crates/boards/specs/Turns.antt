-- What a turn at a board does.
use Rattle.std.specs.Prelude.{◌≡◌, ℕ, ◌<◌, ◌≤◌, ◌⊎◌, ◌↔◌, IsTrue, Bool, true, false, Option, Some}
use Rattle.machine_law.specs.declared.operations.Operation.TheVariants.{Idle}
use Rattle.machine_law.specs.Prelude.{IsQuiet, Step, advance, next_event}
use Rattle.async_step.specs.declared.limits.TheConstants.{MOST_STEPS}
use Rattle.async_step.specs.Prelude.{IsFirstRound, Fits, IsWaiting}
use Rattle.boards.specs.Boards.{BoardView, shown_state, blocks_of_board}
use Rattle.boards.specs.declared.turn.Turn.{Turn}
use Rattle.boards.specs.declared.turn.Turn.TheVariants.{Stepped, Idle as Unserved, Ended}
use Rattle.boards.specs.declared.turn.End.{End}
use Rattle.boards.specs.declared.turn.End.TheVariants.{Quiet, Stuck, Limit, Full}

-- ---- the block that a turn serves

-- b is the worker's own block, and has an operation
pub record IsOwn (board : BoardView) (own : Option ℕ) (b : ℕ) : Type 0 where
  pub own_is : own ≡ Some b
  pub inside : b < blocks_of_board board
  pub at_work : ¬ ((shown_state board).operation b ≡ Idle)

-- the worker has no own block with an operation
abbrev pub HasNoOwn : BoardView → Option ℕ → Type 0
HasNoOwn board own = (b : ℕ) → ¬ (IsOwn board own b)

-- The turn serves block b: the worker's own while its operation goes on, and else the first block at or after one,
-- going round, that has excess and no operation.
abbrev pub IsPicked : BoardView → Option ℕ → ℕ → ℕ → Type 0
IsPicked board own from b = IsOwn board own b
    ⊎ (HasNoOwn board own × IsFirstRound (IsWaiting (shown_state board)) (blocks_of_board board) from b)

-- there is no block to serve
pub record IsUnserved (board : BoardView) (own : Option ℕ) : Type 0 where
  pub no_own : HasNoOwn board own
  pub none_waits : (b : ℕ) → b < blocks_of_board board → ¬ (IsWaiting (shown_state board) b)

-- ---- which block is due, or why none is

-- the run isn't quiet, isn't stuck, and may make another step
pub record IsGoing (board : BoardView) (steps : ℕ) : Type 0 where
  pub unquiet : ¬ (IsQuiet board.net (shown_state board))
  pub free : board.stuck ≡ false
  pub room : (shown_state board).steps < steps

-- the run goes on, and the turn serves block b
pub record IsBlockDue (board : BoardView) (own : Option ℕ) (from steps b : ℕ) : Type 0 where
  pub going : IsGoing board steps
  pub picked : IsPicked board own from b

-- the run is stuck, and not quiet
pub record IsStuck (board : BoardView) : Type 0 where
  pub unquiet : ¬ (IsQuiet board.net (shown_state board))
  pub stuck : board.stuck ≡ true

-- as many steps were made as the run may make
pub record IsAtLimit (board : BoardView) (steps : ℕ) : Type 0 where
  pub unquiet : ¬ (IsQuiet board.net (shown_state board))
  pub free : board.stuck ≡ false
  pub made : steps ≤ (shown_state board).steps

-- why the run is at its end before a step
abbrev pub IsRunOver : BoardView → ℕ → End → Type 0
IsRunOver board steps Quiet = IsQuiet board.net (shown_state board)
IsRunOver board steps Stuck = IsStuck board
IsRunOver board steps Limit = IsAtLimit board steps
IsRunOver board steps Full = ⊥

-- what is answered where no block is due
abbrev pub HasNoneDue : BoardView → Option ℕ → ℕ → Turn → Type 0
HasNoneDue board own steps (Stepped block more) = ⊥
HasNoneDue board own steps Unserved = IsGoing board steps × IsUnserved board own
HasNoneDue board own steps (Ended end) = IsRunOver board steps end

-- ---- the step of a block

-- the one step that is next for the block was made; more tells whether its operation goes on
pub record HasServed (old : BoardView) (b : ℕ) (new : BoardView) (more : Bool) : Type 0 where
  pub counted : (shown_state old).steps < MOST_STEPS
  pub step : Step old.net (shown_state old) (next_event old.net (shown_state old) b) (shown_state new)
  pub rest : new ≡ record old { state = new.state }
  pub goes_on : IsTrue more ↔ ¬ ((shown_state new).operation b ≡ Idle)

-- the step overflows: the board is marked as stuck, and nothing else changes
pub record Sticks (old : BoardView) (b : ℕ) (new : BoardView) : Type 0 where
  pub overflows : ¬ (Fits old.net (advance old.net (shown_state old) b))
  pub marked : new ≡ record old { stuck = true }

-- the step would fit, but as many were made as are counted
pub record IsUncounted (board : BoardView) (b : ℕ) : Type 0 where
  pub fits : Fits board.net (advance board.net (shown_state board) b)
  pub full : MOST_STEPS ≤ (shown_state board).steps

-- what is answered of the step that is next for block b, and what it leaves
abbrev pub IsStepOf : BoardView → ℕ → BoardView → Turn → Type 0
IsStepOf old b new (Stepped block more) = (block ≡ b) × HasServed old b new more
IsStepOf old b new (Ended Stuck) = Sticks old b new
IsStepOf old b new (Ended Limit) = IsUncounted old b × (new ≡ old)
IsStepOf old b new _ = ⊥

-- ---- the turn

-- a turn ends since this holds of the block that is due
abbrev pub OfDue : BoardView → Option ℕ → ℕ → ℕ → (ℕ → Type 0) → Type 0
OfDue old own from steps P = (b : ℕ) × IsBlockDue old own from steps b × P b

-- why a turn ends the run
abbrev pub IsTurnEnd : BoardView → Option ℕ → ℕ → ℕ → BoardView → End → Type 0
IsTurnEnd old own from steps new Quiet = IsQuiet old.net (shown_state old) × (new ≡ old)
IsTurnEnd old own from steps new Stuck = (IsStuck old × (new ≡ old)) ⊎ OfDue old own from steps (λ b. Sticks old b new)
IsTurnEnd old own from steps new Limit = (IsAtLimit old steps ⊎ OfDue old own from steps (λ b. IsUncounted old b))
    × (new ≡ old)
IsTurnEnd old own from steps new Full = ⊥

-- what a turn answers, and what it leaves
abbrev pub IsTurn : BoardView → Option ℕ → ℕ → ℕ → BoardView → Turn → Type 0
IsTurn old own from steps new (Stepped block more) = IsBlockDue old own from steps block × HasServed old block new more
IsTurn old own from steps new Unserved = IsGoing old steps × IsUnserved old own × (new ≡ old)
IsTurn old own from steps new (Ended end) = IsTurnEnd old own from steps new end
