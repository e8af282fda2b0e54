-- The pairs of a block, as its ways lead to them.
use Rattle.std.specs.Prelude.{◌≡◌, ℕ, ◌<◌, Contains, List, Some}
use Rattle.places.specs.Ways.{PrecedenceView}

-- The pairs of block b by its first m ways, and no others.
pub record AreReached (v : PrecedenceView) (b m : ℕ) (pairs : List (ℕ × ℕ)) : Type 0 where
  pub found : (p k : ℕ) → k < m → v.way b k ≡ Some p → Contains pairs (b, p)
  pub only : (q : ℕ × ℕ) → Contains pairs q → (k : ℕ) × (k < m) × (q.0 ≡ b) × (v.way b k ≡ Some q.1)
