-- Columns of a model of blocks: what blocks use of resources, and for which blocks they wait.
use Rattle.std.specs.Prelude.{◌≡◌, ℕ, zero, suc, ◌+◌, ◌*◌, ◌/◌, ◌%◌, ◌<◌, ℤ, pos, ◌≤ℤ◌, unsigned_abs, Bool, List, []}
use Rattle.std.specs.Prelude.{◌∷◌, ◌++◌, length, slice_index, slice_index_or}
use Rattle.prec_file.specs.Rests.{RestsView}
use Rattle.blocks_file.specs.Denotes.{BlocksView}
use Rattle.mine_inputs.specs.Prelude.{ArePairsBy, cell, rests_by}

-- what block b of a model has in the column that was chosen as the r-th
abbrev pub use_in : BlocksView → ℕ → ℕ → ℤ
use_in m r b = slice_index_or (slice_index_or m.columns r []) b (pos 0)

-- these are the numbers of the first columns of a model, column by column
pub record AreUses (m : BlocksView) (resources : ℕ) (uses : List ℕ) : Type 0 where
  pub size : length uses ≡ resources * m.blocks
  pub each : (i : ℕ) → i < resources * m.blocks → pos (slice_index uses i) ≡ use_in m (i / m.blocks) (i % m.blocks)

-- a use as it has to be: none below zero
abbrev pub IsUse : ℤ → Type 0
IsUse z = pos 0 ≤ℤ z

-- the number is that of one of n blocks, in millionths
abbrev pub IsBlock : ℕ → ℤ → Type 0
IsBlock n z = (a : ℕ) × (a < n) × (z ≡ pos (a * 1000000))

-- The first number of so many columns of n blocks, column by column, that isn't such: that of block b in column k.
-- Every
-- number that stands before it is such.
pub record IsFirstWrong (Such : ℤ → Type 0) (at : ℕ → ℕ → ℤ) (columns n k b : ℕ) : Type 0 where
  pub column : k < columns
  pub block : b < n
  pub wrong : ¬ (Such (at k b))
  pub before : (j a : ℕ) → j < columns → a < n → j * n + a < k * n + b → Such (at j a)

-- every number of so many columns of n blocks is such
abbrev pub AllAre : (ℤ → Type 0) → (ℕ → ℕ → ℤ) → (columns n : ℕ) → Type 0
AllAre Such at columns n = (j a : ℕ) → j < columns → a < n → Such (at j a)

-- The pairs that columns list of n blocks, column by column, by so many of their first numbers: a block, and the one
-- whose number it has.
abbrev pub first_pairs : ℕ → (ℕ → ℕ → ℤ) → ℕ → List (ℕ × ℕ)
first_pairs n at zero = []
first_pairs n at (suc i) = first_pairs n at i ++ (i % n, unsigned_abs (at (i / n) (i % n)) / 1000000) ∷ []

-- Whether block b waits for block a: it has a's number in one of the columns of a text, and a is another block.
abbrev pub waits_by : ℕ → List ℕ → List ℕ → ℕ → ℕ → Bool
waits_by n columns text = rests_by (first_pairs n (λ c b. cell text (slice_index columns c) b) (length columns * n))

-- Each number in the columns of a text is that of one of n blocks, and these are the pairs of blocks that wait, each
-- once and in order.
pub record AreWaits (n : ℕ) (columns text : List ℕ) (waits : RestsView) : Type 0 where
  pub blocks : waits.blocks ≡ n
  pub known : (c b : ℕ) → c < length columns → b < n → IsBlock n (cell text (slice_index columns c) b)
  pub are : ArePairsBy (waits_by n columns text) waits.pairs

-- the same of so many columns of a model that stand after others
pub record HasWaits (m : BlocksView) (first count : ℕ) (waits : RestsView) : Type 0 where
  pub blocks : waits.blocks ≡ m.blocks
  pub known : (i : ℕ) → i < count * m.blocks → IsBlock m.blocks (use_in m (first + i / m.blocks) (i % m.blocks))
  pub are : ArePairsBy (rests_by (first_pairs m.blocks (λ c b. use_in m (first + c) b) (count * m.blocks))) waits.pairs
