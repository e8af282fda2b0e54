-- The list of pairs that places denote, as it is made.
use Rattle.std.specs.Prelude.{◌≡◌, ℕ, ◌<◌, ◌⊎◌, IsTrue, Contains, List, Some}
use Rattle.places.specs.Ways.{PrecedenceView}

-- The pairs of block b by its first m ways are added.
pub record AddsWays (v : PrecedenceView) (b m : ℕ) (old new : List (ℕ × ℕ)) : Type 0 where
  pub kept : (q : ℕ × ℕ) → Contains old q → Contains new q
  pub found : (p k : ℕ) → k < m → v.way b k ≡ Some p → Contains new (b, p)
  pub only : (q : ℕ × ℕ) → Contains new q → Contains old q ⊎ ((k : ℕ) × (k < m) × (q.0 ≡ b) × (v.way b k ≡ Some q.1))

-- The pairs of the blocks below m are listed, and no others.
pub record ListsBelow (v : PrecedenceView) (m : ℕ) (pairs : List (ℕ × ℕ)) : Type 0 where
  pub found : (b p : ℕ) → b < m → IsTrue (v.rests b p) → Contains pairs (b, p)
  pub only : (q : ℕ × ℕ) → Contains pairs q → IsTrue (v.rests q.0 q.1)
