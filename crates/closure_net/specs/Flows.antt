-- Flows of a net.
use Rattle.std.specs.Prelude.{◌≡◌, ℕ, ◌<◌, Bool, List, length}
use Rattle.ordered_group.specs.Prelude.{Amount, zero_amount, plus, minus, AtMost, positive, negative, total, at_end}
use Rattle.ordered_group.specs.Prelude.{amount_at}
use Rattle.prec_file.specs.Rests.{from_at, to_at}
use Rattle.closure_net.specs.Network.{NetView, FlowView, FlowFits}
use Rattle.closure_net.specs.Closure.{group_worth}

-- what enters b over the first m pairs
abbrev pub inflow : List (ℕ × ℕ) → List Amount → ℕ → ℕ → Amount
inflow ps fs m b = at_end (to_at ps) (amount_at fs) m b

-- what leaves b over the first m pairs
abbrev pub outflow : List (ℕ × ℕ) → List Amount → ℕ → ℕ → Amount
outflow ps fs m b = at_end (from_at ps) (amount_at fs) m b

-- what b gets from the source and over pairs is what it gives to the sink and over pairs
abbrev pub IsBalancedAt : NetView → FlowView → ℕ → Type 0
IsBalancedAt net flow b = plus (amount_at flow.source b) (inflow net.pairs flow.rest (length net.pairs) b) ≡ plus
    (amount_at flow.sink b) (outflow net.pairs flow.rest (length net.pairs) b)

-- the source gives at most the positive part of a worth, and the sink takes at most its negative part
abbrev pub Within : Amount → Amount → Amount → Type 0
Within worth source sink = AtMost source (positive worth) × AtMost sink (negative worth)

-- the source gives block b at most the positive part of its worth, and b gives the sink at most the negative part
abbrev pub WithinAt : List Amount → List Amount → List Amount → ℕ → Type 0
WithinAt ws ss ts b = Within (amount_at ws b) (amount_at ss b) (amount_at ts b)

-- no amount of the list is negative
abbrev pub NoneNegative : List Amount → Type 0
NoneNegative xs = (k : ℕ) → k < length xs → AtMost zero_amount (amount_at xs k)

-- amounts for this net, none negative, within the worths, and balanced at each block
pub record IsFlow (net : NetView) (flow : FlowView) : Type 0 where
  pub fits : FlowFits net flow
  pub source : NoneNegative flow.source
  pub rest : NoneNegative flow.rest
  pub sink : NoneNegative flow.sink
  pub capacity : (b : ℕ) → b < length net.worths → WithinAt net.worths flow.source flow.sink b
  pub balance : (b : ℕ) → b < length net.worths → IsBalancedAt net flow b

-- the residual capacity from the source to a block: what it could still give the block
abbrev pub residual_at : List Amount → List Amount → ℕ → Amount
residual_at ws ss b = minus (positive (amount_at ws b)) (amount_at ss b)

-- the residual capacity of the source, summed over all blocks
abbrev pub source_residual : NetView → FlowView → Amount
source_residual net flow = total (residual_at net.worths flow.source) (length net.worths)

-- the set sums to the residual capacity of the source
abbrev pub IsTight : NetView → FlowView → (ℕ → Bool) → Type 0
IsTight net flow e = group_worth net.worths e ≡ source_residual net flow

-- no flow takes more from the source
pub record IsGreatestFlow (net : NetView) (flow : FlowView) : Type 0 where
  pub is_flow : IsFlow net flow
  pub most : (other : FlowView) → IsFlow net other → AtMost (total (amount_at other.source) (length net.worths))
      (total (amount_at flow.source) (length net.worths))
