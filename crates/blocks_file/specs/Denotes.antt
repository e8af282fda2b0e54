-- What a text of blocks denotes.
use Rattle.std.specs.Prelude.{◌≡◌, ℕ, ℤ, pos, ◌+◌, ◌*◌, ◌^◌, ◌<◌, ◌≤◌, unsigned_abs, true, List, [], ◌∷◌, length, map}
use Rattle.std.specs.Prelude.{slice_index_or, Option, None, Some}
use Rattle.std.specs.List.{range_with_len}
use Rattle.fixed_worth.specs.declared.limits.TheConstants.{MOST_BLOCKS}
use Rattle.blocks_file.specs.declared.limits.TheConstants.{MOST_COLUMNS}
use Rattle.blocks_file.specs.declared.place.Place.{Place}
use Rattle.fixed_worth.specs.Record.{lines_in}
use Rattle.blocks_file.specs.Records.{place_of_record, columns_of, value_in, has_place_record, record_among}
use Rattle.blocks_file.specs.Records.{record_count_of}

-- What the type shows: the number of blocks, the place of each, and each chosen column's values in millionths.
pub record BlocksView : Type 0 where
  pub blocks : ℕ
  pub places : List Place
  pub columns : List (List ℤ)

-- The place whose coordinates are all 0.
abbrev pub origin : Place
origin = record { x = pos 0; y = pos 0; z = pos 0 }

-- The columns of values that stand block after block.
abbrev pub columns_from : ℕ → ℕ → List ℤ → List (List ℤ)
columns_from width n values = map (λ i. map (λ b. slice_index_or values (b * width + i) (pos 0)) (range_with_len 0 n))
    (range_with_len 0 width)

-- The same blocks with one of their columns alone, or with none.
abbrev pub narrowed : Option ℕ → BlocksView → BlocksView
narrowed None m = record { blocks = m.blocks; places = m.places; columns = [] }
narrowed (Some i) m = record { blocks = m.blocks; places = m.places; columns = slice_index_or m.columns i [] ∷ [] }

-- no value of the column that was chosen as the i-th is above 10^18 millionths either way
abbrev pub IsSmallColumn : BlocksView → ℕ → Type 0
IsSmallColumn m i = (b : ℕ) → b < m.blocks → unsigned_abs (slice_index_or (slice_index_or m.columns i []) b (pos 0))
    ≤ 10 ^ 18

-- At most 2^24 blocks, each with a place and a value of each of at most 19 columns. No value is above 10^18 millionths
-- either way.
pub record IsModel (n width : ℕ) (places : List Place) (values : List ℤ) : Type 0 where
  pub bound : n ≤ MOST_BLOCKS
  pub few : width ≤ MOST_COLUMNS
  pub all_places : length places ≡ n
  pub all_values : length values ≡ n * width
  pub small : (b i : ℕ) → b < n → i < width → unsigned_abs (slice_index_or values (b * width + i) (pos 0)) ≤ 10 ^ 18

-- There are as many blocks as records, each has one, and the record gives its place and its chosen values.
pub record DenotesModel (chosen text : List ℕ) (m : BlocksView) : Type 0 where
  pub count : m.blocks ≡ record_count_of text
  pub each : (b : ℕ) → b < m.blocks → has_place_record (lines_in text) b ≡ true
  pub all_places : length m.places ≡ m.blocks
  pub place : (b : ℕ) → b < m.blocks
      → slice_index_or m.places b origin ≡ place_of_record (record_among (lines_in text) b)
  pub all_columns : length m.columns ≡ length chosen
  pub all_values : (i : ℕ) → i < length chosen → length (slice_index_or m.columns i []) ≡ m.blocks
  pub value : (i b : ℕ) → i < length chosen → b < m.blocks → slice_index_or (slice_index_or m.columns i []) b (pos 0)
      ≡ value_in (columns_of (record_among (lines_in text) b)) (slice_index_or chosen i 0)
