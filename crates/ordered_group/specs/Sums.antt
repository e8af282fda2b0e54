-- Sums of amounts over a range of numbers.
use Rattle.std.specs.Prelude.{ℕ, zero, suc, ◌<◌, Bool, cond, ◌==◌, List, slice_index_or}
use Rattle.ordered_group.specs.Amount.{Amount, zero_amount, plus, FitsPair}

-- the sum of g 0 to g (n - 1)
abbrev pub total : (ℕ → Amount) → ℕ → Amount
total g zero = zero_amount
total g (suc n) = plus (total g n) (g n)

-- x where the test holds, and else zero
abbrev pub where_so : Bool → Amount → Amount
where_so b x = cond b x zero_amount

-- the sum of f over the numbers below m whose end is b
abbrev pub at_end : (ℕ → ℕ) → (ℕ → Amount) → ℕ → ℕ → Amount
at_end end f m b = total (λ k. where_so (end k == b) (f k)) m

-- the amount at a place of a list, zero past its end
abbrev pub amount_at : List Amount → ℕ → Amount
amount_at xs k = slice_index_or xs k zero_amount

-- each sum on the way of g 0 to g (n - 1) fits
abbrev pub SumFits : (ℕ → Amount) → ℕ → Type 0
SumFits g n = (k : ℕ) → k < n → FitsPair (plus (total g k) (g k))

-- one of these sums doesn't fit
abbrev pub SumOverflows : (ℕ → Amount) → ℕ → Type 0
SumOverflows g n = (k : ℕ) × (k < n) × ¬ (FitsPair (plus (total g k) (g k)))
