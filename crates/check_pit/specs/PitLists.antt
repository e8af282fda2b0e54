-- A list of blocks, of which a pit is made.
use Rattle.std.specs.Prelude.{ℕ, Bool, List, Option, Some, None}

-- the blocks, how many there is space for, and whether they are a pit already
pub record PitListView : Type 0 where
  pub blocks : List ℕ
  pub space : ℕ
  pub is_pit : Bool

-- the blocks of the pit, where it is made
abbrev pub blocks_of_pit : List ℕ → Option (List ℕ) → List ℕ
blocks_of_pit bs None = bs
blocks_of_pit bs (Some pit) = pit
