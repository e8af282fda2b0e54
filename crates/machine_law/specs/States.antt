-- The states of the machine.
use Rattle.std.specs.Prelude.{◌≡◌, ℕ, ◌<◌, ◌==◌, if◌then◌else◌, length}
use Rattle.ordered_group.specs.Prelude.{Amount, zero_amount, positive, amount_at}
use Rattle.closure_net.specs.Network.{NetView}
use Rattle.machine_law.specs.declared.operations.Operation.{Operation}
use Rattle.machine_law.specs.declared.operations.Operation.TheVariants.{Idle}

-- For each block its excess, its label, what it has of the source, what it gave the sink, and what it is doing; for
-- each pair its flow; what has arrived back at the source and at the sink; and how many steps were made.
pub record State : Type 0 where
  pub excess : ℕ → Amount
  pub label : ℕ → ℕ
  pub source : ℕ → Amount
  pub sink : ℕ → Amount
  pub flow : ℕ → Amount
  pub operation : ℕ → Operation Amount
  pub at_source : Amount
  pub at_sink : Amount
  pub steps : ℕ

-- f with v at k
unfoldable pub with_value_at : {X : Type 0} → (ℕ → X) → ℕ → X → ℕ → X
with_value_at f k v i = if i == k then v else f i

-- each block has of the source what is positive of its worth, as excess, and all else is zero
abbrev pub opening : NetView → State
opening net = record {
  excess = λ b. positive (amount_at net.worths b);
  label = λ b. 0;
  source = λ b. positive (amount_at net.worths b);
  sink = λ b. zero_amount;
  flow = λ k. zero_amount;
  operation = λ b. Idle;
  at_source = zero_amount;
  at_sink = zero_amount;
  steps = 0;
}

-- no block has excess or an operation
pub record IsQuiet (net : NetView) (s : State) : Type 0 where
  pub excess : (b : ℕ) → b < length net.worths → s.excess b ≡ zero_amount
  pub operation : (b : ℕ) → b < length net.worths → s.operation b ≡ Idle
