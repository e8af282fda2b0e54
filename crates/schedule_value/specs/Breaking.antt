-- The pairs that a schedule breaks.
use Rattle.std.specs.Prelude.{◌≡◌, ℕ, ◌+◌, ◌<◌, ◌≤◌, Bool, ◌&&◌, nat_lt, IsTrue, List, length, take, slice_index}
use Rattle.std.specs.List.{filter}

-- the period of block b, by a list
abbrev pub period_by : List ℕ → ℕ → ℕ
period_by periods b = slice_index periods b

-- of a pair (b, p): b is dug, and p isn't dug so many periods before or earlier; with a lag of 0 not in the same period
-- or before
abbrev pub breaks : (lag : ℕ) → (ℕ → ℕ) → ℕ → ℕ × ℕ → Bool
breaks lag schedule periods pair = nat_lt (schedule pair.0) periods && nat_lt (schedule pair.0) (lag + schedule pair.1)

-- the pairs that a schedule breaks, in their order
abbrev pub broken_pairs : (lag : ℕ) → (ℕ → ℕ) → ℕ → List (ℕ × ℕ) → List (ℕ × ℕ)
broken_pairs lag schedule periods pairs = filter (breaks lag schedule periods) pairs

-- each block that is dug is dug at least so many periods after each block for which it waits
pub record KeepsLags (periods lag : ℕ) (waits : ℕ → ℕ → Bool) (schedule : ℕ → ℕ) : Type 0 where
  pub later : (b a : ℕ) → IsTrue (waits b a) → schedule b < periods → lag + schedule a ≤ schedule b

-- the most pairs that are told
abbrev pub most_told : ℕ
most_told = 20

-- So many pairs are broken, and these are the first of them.
pub record AreBroken (lag : ℕ) (schedule : ℕ → ℕ) (periods : ℕ) (pairs : List (ℕ × ℕ)) (count : ℕ)
    (told : List (ℕ × ℕ)) : Type 0 where
  pub all : count ≡ length (broken_pairs lag schedule periods pairs)
  pub first : told ≡ take most_told (broken_pairs lag schedule periods pairs)
