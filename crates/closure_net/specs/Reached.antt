-- What the source of a network reaches in what is left of it by a flow.
use Rattle.std.specs.Prelude.{ℕ, ◌<◌, Bool, List, length, IsTrue}
use Rattle.ordered_group.specs.Prelude.{Amount, zero_amount, AtMost, positive, amount_at}
use Rattle.prec_file.specs.Rests.{from_at, to_at}
use Rattle.closure_net.specs.Network.{NetView, FlowView}

-- the residual capacity from the source to b is positive: the source could still give b something
abbrev pub HasSourceResidual : List Amount → List Amount → ℕ → Type 0
HasSourceResidual ws ss b = ¬ (AtMost (positive (amount_at ws b)) (amount_at ss b))

-- the pair k carries something
abbrev pub Carries : List Amount → ℕ → Type 0
Carries fs k = ¬ (AtMost (amount_at fs k) zero_amount)

-- a set that holds each block to which the source could still give something, and with a block each one that it rests
-- on and each one that sends something to it
pub record Reaches (net : NetView) (flow : FlowView) (e : ℕ → Bool) : Type 0 where
  pub begins : (b : ℕ) → b < length net.worths → HasSourceResidual net.worths flow.source b → IsTrue (e b)
  pub down : (k : ℕ) → k < length net.pairs → IsTrue (e (from_at net.pairs k)) → IsTrue (e (to_at net.pairs k))
  pub up : (k : ℕ) → k < length net.pairs → Carries flow.rest k → IsTrue (e (to_at net.pairs k))
      → IsTrue (e (from_at net.pairs k))

-- the least such set
abbrev pub IsReached : NetView → FlowView → (ℕ → Bool) → Type 0
IsReached net flow e = Reaches net flow e
    × ((c : ℕ → Bool) → Reaches net flow c → (b : ℕ) → IsTrue (e b) → IsTrue (c b))
