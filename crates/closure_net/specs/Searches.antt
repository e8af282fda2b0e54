-- A breadth-first search among the blocks of a net: its marks, what it has found, and what one pass adds.
use Rattle.std.specs.Prelude.{◌⊎◌, ◌≡◌, ℕ, suc, ◌<◌, ◌≤◌, Bool, true, false, cond, List, [], ◌∷◌, ◌++◌, length}
use Rattle.std.specs.Prelude.{slice_index_or, slice_index, All}
use Rattle.fixed_worth.specs.declared.limits.TheConstants.{MOST_BLOCKS}
use Rattle.ordered_group.specs.Amount.{Amount}
use Rattle.closure_net.specs.Network.{holds_of}
use Rattle.prec_file.specs.Rests.{from_at, above_of, below_of}
use Rattle.closure_net.specs.Reached.{Carries}

-- what was found among n blocks, in its order
pub record SearchView : Type 0 where
  pub blocks : ℕ
  pub found : List ℕ

-- the list with x at its end, unless x is in it
abbrev pub list_with : List ℕ → ℕ → List ℕ
list_with xs x = cond (holds_of xs x) xs (xs ++ x ∷ [])

-- how many marks are set
abbrev pub trues : List Bool → ℕ
trues [] = 0
trues (true ∷ ts) = suc (trues ts)
trues (false ∷ ts) = trues ts

-- a mark for each block that is found, and room for all
pub record IsSearch (marks : List Bool) (found : List ℕ) (space : ℕ) : Type 0 where
  pub few : length marks ≤ MOST_BLOCKS
  pub room : length marks ≤ space
  pub count : length found ≡ trues marks
  pub same : (b : ℕ) → slice_index_or marks b false ≡ holds_of found b
  pub known : All (λ b. b < length marks) found

-- the list has become longer
pub record Extends (old new : List ℕ) : Type 0 where
  pub more : List ℕ
  pub is : new ≡ old ++ more

-- a pass over places: of the first i those that count have their block found, and nothing else was added
pub record PassedPlaces (W : ℕ → Type 0) (g : ℕ → ℕ) (old cur : List ℕ) (i : ℕ) : Type 0 where
  pub grown : Extends old cur
  pub upto : (j : ℕ) → j < i → W j → holds_of cur (g j) ≡ true
  pub only : (x : ℕ) → holds_of cur x ≡ true → (holds_of old x ≡ true) ⊎ ((j : ℕ) × (j < i) × W j × (g j ≡ x))

-- each place counts
abbrev pub Always : ℕ → Type 0
Always j = Unit {0}

-- the j-th block that b rests on
abbrev pub above_at : List (ℕ × ℕ) → ℕ → ℕ → ℕ
above_at ps b j = slice_index (above_of ps b) j

-- the block of the j-th pair in which one rests on b
abbrev pub sender_at : List (ℕ × ℕ) → ℕ → ℕ → ℕ
sender_at ps b j = from_at ps (slice_index (below_of ps b) j)

-- that pair carries something
abbrev pub SendsAt : List (ℕ × ℕ) → List Amount → ℕ → ℕ → Type 0
SendsAt ps fs b j = Carries fs (slice_index (below_of ps b) j)

-- wherever b stands, it is at this place or after it
abbrev pub StandsFrom : List ℕ → ℕ → ℕ → Type 0
StandsFrom xs b from = (i : ℕ) → i < length xs → slice_index xs i ≡ b → from ≤ i

-- wherever b stands from a place on, it is before another
abbrev pub StandsBelow : List ℕ → ℕ → ℕ → ℕ → Type 0
StandsBelow xs b from to = (i : ℕ) → i < length xs → from ≤ i → slice_index xs i ≡ b → i < to
