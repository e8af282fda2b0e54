-- Which pairs lead out of a set of blocks.
use Rattle.std.specs.Prelude.{◌≡◌, ℕ, ◌&&◌, Bool, not, List, length, take}
use Rattle.std.specs.List.{filter}

-- of a pair (b, p): b is in the set, and p, on which it rests, isn't
abbrev pub leads_out : (ℕ → Bool) → ℕ × ℕ → Bool
leads_out design pair = design pair.0 && not (design pair.1)

-- the pairs that lead from a block of the set to one outside, in the order of the pairs
abbrev pub open_pairs : (ℕ → Bool) → List (ℕ × ℕ) → List (ℕ × ℕ)
open_pairs design pairs = filter (leads_out design) pairs

-- the most pairs that are told
abbrev pub most_open_told : ℕ
most_open_told = 20

-- So many pairs lead out, and these are the first of them.
pub record AreOpen (design : ℕ → Bool) (pairs : List (ℕ × ℕ)) (leading : ℕ) (needs : List (ℕ × ℕ)) : Type 0 where
  pub all : leading ≡ length (open_pairs design pairs)
  pub first : needs ≡ take most_open_told (open_pairs design pairs)
