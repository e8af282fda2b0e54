-- Who precedes whom, whoever holds it.
use Rattle.std.specs.Prelude.{◌≡◌, ℕ, ◌<◌, ◌≤◌, Bool, IsTrue, Option, Some, length, slice_get}
use Rattle.fixed_worth.specs.declared.limits.TheConstants.{MOST_BLOCKS}
use Rattle.prec_file.specs.Rests.{RestsView, has_pair, above_of}

-- How many blocks there are, whether one rests on another, how many ways lead up from a block, and the block to which a
-- way leads, if one is there.
pub record PrecedenceView : Type 0 where
  pub blocks : ℕ
  pub rests : ℕ → ℕ → Bool
  pub ways : ℕ → ℕ
  pub way : ℕ → ℕ → Option ℕ

-- way k of block b leads to p
pub record WayLeads (v : PrecedenceView) (b p k : ℕ) : Type 0 where
  pub inside : k < v.ways b
  pub there : v.way b k ≡ Some p

-- What every precedence is: few blocks; the ways lead to just the blocks that a block rests on; these are blocks, and
-- never itself.
pub record IsPrecedence (v : PrecedenceView) : Type 0 where
  pub few : v.blocks ≤ MOST_BLOCKS
  pub sound : (b p k : ℕ) → b < v.blocks → WayLeads v b p k → IsTrue (v.rests b p)
  pub found : (b p : ℕ) → IsTrue (v.rests b p) → (k : ℕ) × WayLeads v b p k
  pub known : (b p : ℕ) → IsTrue (v.rests b p) → (b < v.blocks) × (p < v.blocks)
  pub apart : (b : ℕ) → ¬ (IsTrue (v.rests b b))

-- the pairs of a list
abbrev pub listed : RestsView → PrecedenceView
listed r = record {
  blocks = r.blocks;
  rests = has_pair r.pairs;
  ways = λ b. length (above_of r.pairs b);
  way = λ b k.
      slice_get (above_of r.pairs b) k;
}
