-- Sets of marked blocks, and the sums of their worths.
use Rattle.std.specs.Prelude.{ℕ, ℤ, pos, ◌≤◌, Bool, false, List, slice_index_or, FitsSigned}
use Rattle.std.specs.Int.{w128}
use Rattle.ordered_group.specs.Sets.{worth_in}

-- what block b is worth, by a list
abbrev pub worth_listed : List ℤ → ℕ → ℤ
worth_listed nanos b = slice_index_or nanos b (pos 0)

-- whether block b is marked
abbrev pub marked_in : List Bool → ℕ → Bool
marked_in marks b = slice_index_or marks b false

-- some sum of a set's worths, up to a block, doesn't fit 128 bits
abbrev pub SumLeaves : (ℕ → ℤ) → (ℕ → Bool) → ℕ → Type 0
SumLeaves worth e n = (k : ℕ) × (k ≤ n) × ¬ (FitsSigned w128 (worth_in worth e k))
