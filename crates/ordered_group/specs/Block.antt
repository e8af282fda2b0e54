-- The amount of one block, and amounts by their numbers.
use Rattle.std.specs.Prelude.{◌≡◌, ℕ, ◌+◌, Bool, true, false, ℤ, pos, negsuc, ◌+ℤ◌, ◌-ℤ◌, ◌*ℤ◌, Option, MatchOption}
use Rattle.std.specs.Prelude.{FitsSigned, ◌⊎◌}
use Rattle.std.specs.Int.{w128, int_div_euclid}
use Rattle.ordered_group.specs.Amount.{Amount}

-- one block by its worth alone
abbrev pub worth_block : ℤ → ℕ → Amount
worth_block v n = record { w = v; c = pos 0 }

-- one block with its count, which is -1
abbrev pub counted_block : ℤ → ℕ → Amount
counted_block v n = record { w = v; c = negsuc 0 }

-- one block of n by its units, which are its worth times n + 1, less 1 for the block
abbrev pub scaled_block : ℤ → ℕ → Amount
scaled_block v n = record { w = (v *ℤ pos (n + 1)) -ℤ pos 1; c = pos 0 }

-- the worth of a set of so many blocks of n by its units, rounded down
abbrev pub scaled_worth : Amount → ℕ → ℕ → ℤ
scaled_worth a n count = int_div_euclid (a.w +ℤ pos count) (pos (n + 1))

-- The amount with these two numbers is answered, and nothing where amounts have no count and one is given.
abbrev pub TakesParts : {X : Type 0} → (X → Amount) → Bool → ℤ → ℤ → Option X → Type 0
TakesParts parts counts w c o = MatchOption o ((counts ≡ false) × ¬ (c ≡ pos 0))
    (λ x. (parts x ≡ record { w = w; c = c }) × ((counts ≡ true) ⊎ (c ≡ pos 0)))

-- the worth is answered where it fits, and otherwise nothing
abbrev pub TellsWorth : ℤ → Option ℤ → Type 0
TellsWorth v o = MatchOption o (¬ (FitsSigned w128 v)) (λ r. r ≡ v)
