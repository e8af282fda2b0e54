-- Some of a mine's blocks with numbers of their own.
use Rattle.std.specs.Prelude.{◌≡◌, ℕ, ◌<◌, Bool, List, IsTrue, slice_index_or, ◌↔◌, All, length, Contains}
use Rattle.closure_net.specs.Prelude.{Mine, RestsWithin, holds_of, IsAscending}

-- The numbers at 0, at 1 and so on to at (m - 1) are those below n that are in the set, ascending.
pub record IsListed (set : ℕ → Bool) (n m : ℕ) (at : ℕ → ℕ) : Type 0 where
  pub below : (i : ℕ) → i < m → at i < n
  pub held : (i : ℕ) → i < m → IsTrue (set (at i))
  pub rising : (i j : ℕ) → i < j → j < m → at i < at j
  pub all : (b : ℕ) → b < n → IsTrue (set b) → (i : ℕ) × (i < m) × (at i ≡ b)

-- Block i of the small mine is block at i of the mine.
pub record IsRenumbered (mine small : Mine) (at : ℕ → ℕ) : Type 0 where
  pub own : RestsWithin small
  pub rests : (i j : ℕ) → i < small.blocks → j < small.blocks → small.rests i j ≡ mine.rests (at i) (at j)
  pub worth : (i : ℕ) → i < small.blocks → small.worth i ≡ mine.worth (at i)

-- The set t holds the blocks below n that are at the places below m of the set s.
pub record IsImage (n m : ℕ) (at : ℕ → ℕ) (s t : ℕ → Bool) : Type 0 where
  pub same : (i : ℕ) → i < m → t (at i) ≡ s i
  pub only : (b : ℕ) → b < n → IsTrue (t b) → (i : ℕ) × (i < m) × (at i ≡ b)

-- the number at a place of a list
abbrev pub number_in : List ℕ → ℕ → ℕ
number_in kept i = slice_index_or kept i 0

-- The list is that of the blocks below n that are in the set. Block number_in kept i is block i of their mine.
pub record IsKept (set : ℕ → Bool) (n : ℕ) (kept : List ℕ) : Type 0 where
  pub ascending : IsAscending kept
  pub below : All (λ b. b < n) kept
  pub are : (b : ℕ) → b < n → holds_of kept b ≡ set b

-- The pairs of which both blocks are in the list, each block by its place in it.
pub record IsPartPairs (kept : List ℕ) (pairs less : List (ℕ × ℕ)) : Type 0 where
  pub known : (i j : ℕ) → Contains less (i, j) → (i < length kept) × (j < length kept)
  pub same : (i j : ℕ) → i < length kept → j < length kept
      → Contains less (i, j) ↔ Contains pairs (number_in kept i, number_in kept j)
