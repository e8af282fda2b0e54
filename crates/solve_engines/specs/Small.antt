-- Amounts of few digits, of which no sum that a check makes leaves its numbers.
use Rattle.std.specs.Prelude.{ℕ, ℤ, pos, neg_ℤ, ◌≤ℤ◌, ◌<◌, ◌^◌, List, length}
use Rattle.ordered_group.specs.Prelude.{Amount, amount_at}
use Rattle.closure_net.specs.Network.{NetView, FlowView}

-- the number lies between -2^88 and 2^88
abbrev pub IsSmallNumber : ℤ → Type 0
IsSmallNumber z = (neg_ℤ (pos (2 ^ 88)) ≤ℤ z) × (z ≤ℤ pos (2 ^ 88))

-- both numbers of the amount do
abbrev pub IsSmallAmount : Amount → Type 0
IsSmallAmount x = IsSmallNumber x.w × IsSmallNumber x.c

-- each amount of a list is small
abbrev pub AreSmall : List Amount → Type 0
AreSmall xs = (k : ℕ) → k < length xs → IsSmallAmount (amount_at xs k)

-- The number lies between -2^100 and 2^100. A node whose block can't be dug yet is worth 10^30 less.
abbrev pub IsWorthNumber : ℤ → Type 0
IsWorthNumber z = (neg_ℤ (pos (2 ^ 100)) ≤ℤ z) × (z ≤ℤ pos (2 ^ 100))

-- both numbers of what a block is worth do
abbrev pub IsSmallWorth : Amount → Type 0
IsSmallWorth x = IsWorthNumber x.w × IsWorthNumber x.c

-- what each block is worth is small
abbrev pub AreSmallWorths : List Amount → Type 0
AreSmallWorths xs = (k : ℕ) → k < length xs → IsSmallWorth (amount_at xs k)

-- what each block is worth, and what each arc carries, is small
pub record IsSmallFlow (net : NetView) (flow : FlowView) : Type 0 where
  pub worths : AreSmallWorths net.worths
  pub source : AreSmall flow.source
  pub rest : AreSmall flow.rest
  pub sink : AreSmall flow.sink
