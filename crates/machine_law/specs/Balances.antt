-- Nothing is lost: the balance of each block, and what arrives at the source and the sink.
use Rattle.std.specs.Prelude.{◌≡◌, ℕ}
use Rattle.ordered_group.specs.Amount.{Amount, plus, minus}
use Rattle.closure_net.specs.Network.{NetView}
use Rattle.machine_law.specs.States.{State}
use Rattle.machine_law.specs.Transit.{amount_owed, amount_coming, amount_coming_to_sink, amount_coming_to_source}
use Rattle.machine_law.specs.Transit.{inflow_at, outflow_at, amount_given_back, amount_drained}

-- what b has of the source and over pairs, less what it gave over pairs and to the sink
abbrev pub balance : NetView → State → ℕ → Amount
balance net s b = minus (minus (plus (s.source b) (inflow_at net s.flow b)) (outflow_at net s.flow b)) (s.sink b)

-- what b will have once all that is on its way has arrived
abbrev pub supply : NetView → State → ℕ → Amount
supply net s b = minus (plus (s.excess b) (amount_coming net s b)) (amount_owed (s.operation b))

-- what b has is its excess and what is coming to it, less what it owes; what was given back to the source has arrived
-- there, or is coming; and so with the sink
pub record IsBalanced (net : NetView) (s : State) : Type 0 where
  pub blocks : (b : ℕ) → balance net s b ≡ supply net s b
  pub at_source : amount_given_back net s.source ≡ plus s.at_source (amount_coming_to_source net s)
  pub at_sink : amount_drained net s.sink ≡ plus s.at_sink (amount_coming_to_sink net s)
