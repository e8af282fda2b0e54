-- A set of blocks as marks, and what is counted of them.
use Rattle.std.specs.Prelude.{◌≡◌, ℕ, ◌+◌, ◌-◌, ◌*◌, ◌/◌, ◌<◌, ◌≤◌, ◌^◌, nat_le, Bool, true, false, if◌then◌else◌, List}
use Rattle.std.specs.Prelude.{length, slice_index, slice_index_or}
use Rattle.fixed_worth.specs.declared.limits.TheConstants.{MOST_BLOCKS}
use Rattle.ordered_group.specs.Sets.{count_in}
use Rattle.async_step.specs.declared.marks.TheConstants.{SMALL, MIDDLE, LARGE}

-- whether block b is in the set
abbrev pub mark_at : List Bool → ℕ → Bool
mark_at marks b = slice_index_or marks b false

-- how many of the blocks from one on, so many, are in the set
unfoldable pub run_count : List Bool → ℕ → ℕ → ℕ
run_count marks from width = count_in (λ j. mark_at marks (from + j)) width

-- each count is that of its own run of blocks, and each block has one
pub record IsCounted (marks : List Bool) (width : ℕ) (counts : List ℕ) : Type 0 where
  pub covers : (b : ℕ) → b ≤ length marks → b / width < length counts
  pub at : (i : ℕ) → i < length counts → slice_index counts i ≡ run_count marks (i * width) width

-- the counts of all levels, and of all blocks
pub record IsMarks (marks : List Bool) (smalls middles larges : List ℕ) (count : ℕ) : Type 0 where
  pub few : length marks ≤ MOST_BLOCKS
  pub small : IsCounted marks SMALL smalls
  pub middle : IsCounted marks MIDDLE middles
  pub large : IsCounted marks LARGE larges
  pub held : count ≡ run_count marks 0 (length marks)

-- a count of one more, or of one fewer
abbrev pub count_after_shift : Bool → ℕ → ℕ
count_after_shift true count = count + 1
count_after_shift false count = count - 1

-- there is room for one more, or one to take away
abbrev pub CanShift : Bool → ℕ → Type 0
CanShift true count = count + 1 < 2 ^ 32
CanShift false count = 0 < count

-- none of the blocks from one up to another is in the set
abbrev pub NoneWithin : List Bool → ℕ → ℕ → Type 0
NoneWithin marks from to = (b : ℕ) → from ≤ b → b < to → mark_at marks b ≡ false

-- block b is the first of the set from one block up to another
pub record IsFirstWithin (marks : List Bool) (from to b : ℕ) : Type 0 where
  pub past : from ≤ b
  pub inside : b < to
  pub here : mark_at marks b ≡ true
  pub first : NoneWithin marks from b

-- how far block b is ahead of another among n blocks, going round; from a block that there isn't, one counts from 0
abbrev pub ahead_of : ℕ → ℕ → ℕ → ℕ
ahead_of n from b = if nat_le n from then b else (if nat_le from b then b - from else (b + n) - from)

-- of n blocks, b is the first at or after one, going round, for which the test holds
pub record IsFirstRound (P : ℕ → Type 0) (n from b : ℕ) : Type 0 where
  pub inside : b < n
  pub here : P b
  pub first : (c : ℕ) → c < n → P c → ahead_of n from b ≤ ahead_of n from c
