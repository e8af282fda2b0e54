-- Which of a checker's sums fit the machine numbers, each sum on the way included.
use Rattle.std.specs.Prelude.{◌≡◌, ℕ, ◌<◌, Bool, IsTrue, ◌⊎◌, List, length}
use Rattle.ordered_group.specs.Prelude.{Amount, plus, FitsPair, total, where_so, at_end, amount_at}
use Rattle.prec_file.specs.Rests.{from_at, to_at}
use Rattle.closure_net.specs.Prelude.{NetView, FlowView, holds_of, residual_at}

-- start, and after it the amounts of the pairs that end at b in their order: each sum on the way fits
abbrev pub EndFits : Amount → (ℕ → ℕ) → (ℕ → Amount) → ℕ → ℕ → Type 0
EndFits start end f b m = (k : ℕ) → k < m → end k ≡ b → FitsPair (plus (plus start (at_end end f k b)) (f k))

-- start, and after it the amounts of the pairs that end at b in their order: some sum on the way doesn't fit
abbrev pub EndOverflows : Amount → (ℕ → ℕ) → (ℕ → Amount) → ℕ → ℕ → Type 0
EndOverflows start end f b m = (k : ℕ) × (k < m) × (end k ≡ b)
    × ¬ (FitsPair (plus (plus start (at_end end f k b)) (f k)))

-- what enters b from the source and over pairs, and what leaves it to the sink and over pairs: each sum on the way fits
abbrev pub BalanceFits : NetView → FlowView → ℕ → Type 0
BalanceFits net flow b = EndFits (amount_at flow.source b) (to_at net.pairs) (amount_at flow.rest) b
    (length net.pairs) × EndFits (amount_at flow.sink b) (from_at net.pairs) (amount_at flow.rest) b (length net.pairs)

-- what enters b from the source and over pairs, or what leaves it to the sink and over pairs: some sum on the way
-- doesn't fit
abbrev pub BalanceOverflows : NetView → FlowView → ℕ → Type 0
BalanceOverflows net flow b = EndOverflows (amount_at flow.source b) (to_at net.pairs) (amount_at flow.rest) b
    (length net.pairs) ⊎ EndOverflows (amount_at flow.sink b) (from_at net.pairs) (amount_at flow.rest) b
    (length net.pairs)

-- the worths of a set's blocks in their order: each sum on the way fits
abbrev pub SetFits : List Amount → (ℕ → Bool) → Type 0
SetFits ws e = (k : ℕ) → k < length ws → IsTrue (e k)
    → FitsPair (plus (total (λ b. where_so (e b) (amount_at ws b)) k) (amount_at ws k))

-- the worths of a set's blocks in their order: some sum on the way doesn't fit
abbrev pub SetOverflows : List Amount → (ℕ → Bool) → Type 0
SetOverflows ws e = (k : ℕ) × (k < length ws) × IsTrue (e k)
    × ¬ (FitsPair (plus (total (λ b. where_so (e b) (amount_at ws b)) k) (amount_at ws k)))

-- what the source could still give block k fits, and so does its sum with that of the blocks before
abbrev pub ResidualFits : List Amount → List Amount → ℕ → Type 0
ResidualFits ws ss k = FitsPair (residual_at ws ss k)
    × FitsPair (plus (total (residual_at ws ss) k) (residual_at ws ss k))

-- at some block one of the two doesn't
abbrev pub ResidualOverflows : List Amount → List Amount → Type 0
ResidualOverflows ws ss = (k : ℕ) × (k < length ws) × ¬ (ResidualFits ws ss k)

-- the sums of some block's balance don't all fit
abbrev pub SomeBalanceOverflows : NetView → FlowView → Type 0
SomeBalanceOverflows net flow = (b : ℕ) × (b < length net.worths) × BalanceOverflows net flow b

-- every sum that a check makes fits: those of the balances, of the pit's worth, and of what the source could still give
pub record SumsFit (net : NetView) (flow : FlowView) (pit : List ℕ) : Type 0 where
  pub balances : (b : ℕ) → b < length net.worths → BalanceFits net flow b
  pub set : SetFits net.worths (holds_of pit)
  pub room : (k : ℕ) → k < length net.worths → ResidualFits net.worths flow.source k

-- some sum of the check doesn't fit: of a block's balance, of the pit's worth, or of what the source could still give
abbrev pub SomeSumOverflows : NetView → FlowView → List ℕ → Type 0
SomeSumOverflows net flow pit = SomeBalanceOverflows net flow
    ⊎ (SetOverflows net.worths (holds_of pit) ⊎ ResidualOverflows net.worths flow.source)
