-- The model that the files of a mine denote, its pits, and which of them is best.
use Rattle.std.specs.Prelude.{◌≡◌, ◌↔◌, ℕ, ◌<◌, ℤ, ◌≤ℤ◌, Bool, IsTrue, length, Contains}
use Rattle.ordered_group.specs.Prelude.{Amount, amount_at, worth_in, count_in}
use Rattle.closure_net.specs.Network.{NetView}

-- How many blocks there are, which block rests on which, and what each block is worth in billionths. A set of blocks is
-- a test.
pub record Mine : Type 0 where
  pub blocks : ℕ
  pub rests : ℕ → ℕ → Bool
  pub worth : ℕ → ℤ

-- who rests on whom concerns blocks of the mine alone
pub record RestsWithin (mine : Mine) : Type 0 where
  pub own : (b p : ℕ) → IsTrue (mine.rests b p) → (b < mine.blocks) × (p < mine.blocks)

-- the set holds every block that a block of it rests on
abbrev pub IsPit : Mine → (ℕ → Bool) → Type 0
IsPit mine pit = (b p : ℕ) → IsTrue (mine.rests b p) → IsTrue (pit b) → IsTrue (pit p)

-- the sum of the worths of the set's blocks, in billionths
abbrev pub worth_of : Mine → (ℕ → Bool) → ℤ
worth_of mine pit = worth_in mine.worth pit mine.blocks

-- the number of the set's blocks
abbrev pub block_count_of : Mine → (ℕ → Bool) → ℕ
block_count_of mine pit = count_in pit mine.blocks

-- two sets have the same blocks
abbrev pub AreSame : Mine → (ℕ → Bool) → (ℕ → Bool) → Type 0
AreSame mine pit other = (b : ℕ) → b < mine.blocks → pit b ≡ other b

-- a pit, and no pit is worth more
pub record IsRichest (mine : Mine) (pit : ℕ → Bool) : Type 0 where
  pub is_pit : IsPit mine pit
  pub most : (other : ℕ → Bool) → IsPit mine other → worth_of mine other ≤ℤ worth_of mine pit

-- The best pit: no pit is worth more, and every other pit that is worth the same has more blocks.
pub record IsBest (mine : Mine) (pit : ℕ → Bool) : Type 0 where
  pub is_pit : IsPit mine pit
  pub most : (other : ℕ → Bool) → IsPit mine other → worth_of mine other ≤ℤ worth_of mine pit
  pub fewest : (other : ℕ → Bool) → IsPit mine other → ¬ (AreSame mine other pit) → worth_of mine other ≡ worth_of mine pit → block_count_of mine pit < block_count_of mine other

-- the second mine has the blocks of the first, which rest on the same ones, and none is worth less
pub record RisesTo (mine later : Mine) : Type 0 where
  pub blocks : later.blocks ≡ mine.blocks
  pub rests : (b p : ℕ) → later.rests b p ≡ mine.rests b p
  pub worths : (b : ℕ) → b < mine.blocks → mine.worth b ≤ℤ later.worth b

-- every block of the first set is in the second
abbrev pub LiesWithin : Mine → (ℕ → Bool) → (ℕ → Bool) → Type 0
LiesWithin mine pit other = (b : ℕ) → b < mine.blocks → IsTrue (pit b) → IsTrue (other b)

-- the net is that of the mine, each worth being the amount of one block
pub record IsNetOf (block : ℤ → ℕ → Amount) (mine : Mine) (net : NetView) : Type 0 where
  pub blocks : length net.worths ≡ mine.blocks
  pub worths : (b : ℕ) → b < mine.blocks → amount_at net.worths b ≡ block (mine.worth b) mine.blocks
  pub pairs : (b p : ℕ) → Contains net.pairs (b, p) ↔ IsTrue (mine.rests b p)
