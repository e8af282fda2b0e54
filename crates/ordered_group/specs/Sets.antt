-- Sets of blocks below n, as tests: their worth, their number, and the sums that stand for them.
use Rattle.std.specs.Prelude.{◌≡◌, ℕ, zero, suc, ◌+◌, ◌<◌, ℤ, pos, ◌+ℤ◌, ◌<ℤ◌, Bool, cond, ◌⊎◌}
use Rattle.ordered_group.specs.Amount.{Amount}
use Rattle.ordered_group.specs.Sums.{total, where_so}

-- the sum of the worths of a set's blocks
abbrev pub worth_in : (ℕ → ℤ) → (ℕ → Bool) → ℕ → ℤ
worth_in v e zero = pos 0
worth_in v e (suc n) = worth_in v e n +ℤ cond (e n) (v n) (pos 0)

-- the number of a set's blocks
abbrev pub count_in : (ℕ → Bool) → ℕ → ℕ
count_in e zero = 0
count_in e (suc n) = count_in e n + cond (e n) 1 0

-- the set e is before the set c: it is worth less, or the same with more blocks
abbrev pub IsBefore : (ℕ → ℤ) → ℕ → (ℕ → Bool) → (ℕ → Bool) → Type 0
IsBefore v n e c = (worth_in v e n <ℤ worth_in v c n) ⊎ ((worth_in v e n ≡ worth_in v c n) × (count_in c n < count_in e n))

-- the sum of a set's blocks, each with the amount of one block of n
abbrev pub group_sum : (ℤ → ℕ → Amount) → (ℕ → ℤ) → (ℕ → Bool) → ℕ → Amount
group_sum block v e n = total (λ b. where_so (e b) (block (v b) n)) n
