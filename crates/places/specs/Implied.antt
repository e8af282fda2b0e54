-- The list of pairs that a precedence denotes: a definition that nothing computes, so that what is said of pairs by
-- their numbers stays said where none is held.
use Rattle.std.specs.Prelude.{◌≤◌, All, IsTrue, Contains, ℕ, zero, suc, Bool, List, [], ◌++◌, map}
use Rattle.fixed_worth.specs.declared.limits.TheConstants.{MOST_BLOCKS}
use Rattle.prec_file.specs.Rests.{numbers_passing, RestsView, IsKnown, IsRising, AreApart}
use Rattle.places.specs.Ways.{PrecedenceView}

-- the pairs of block b, by the predecessors below n
abbrev pub block_pairs : (ℕ → ℕ → Bool) → ℕ → ℕ → List (ℕ × ℕ)
block_pairs test n b = map (λ p. (b, p)) (numbers_passing (test b) n)

-- the pairs of the blocks below m, by block and then by predecessor
abbrev pub pairs_below : (ℕ → ℕ → Bool) → ℕ → ℕ → List (ℕ × ℕ)
pairs_below test n zero = []
pairs_below test n (suc m) = pairs_below test n m ++ block_pairs test n m

-- the pairs of a precedence
abbrev pub implied : PrecedenceView → RestsView
implied v = record { blocks = v.blocks; pairs = pairs_below v.rests v.blocks v.blocks }

-- What the pairs of every precedence are: of few blocks, in order and each once, and none of a block with itself. How
-- many they are is bounded by no number: a list that is held has a limit of its own.
pub record ArePairs (r : RestsView) : Type 0 where
  pub blocks : r.blocks ≤ MOST_BLOCKS
  pub known : All (IsKnown r.blocks) r.pairs
  pub rising : IsRising r.pairs
  pub apart : AreApart r.pairs

-- the list is in order, and has just the pairs of the precedence
pub record IsImplied (v : PrecedenceView) (r : RestsView) : Type 0 where
  pub pairs : ArePairs r
  pub held : (b p : ℕ) → IsTrue (v.rests b p) → Contains r.pairs (b, p)
  pub only : (b p : ℕ) → Contains r.pairs (b, p) → IsTrue (v.rests b p)
