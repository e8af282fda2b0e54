-- What only the functions of this crate say to one another: what one step of reading does.
use Rattle.std.specs.Prelude.{◌≡◌, ◌≢◌, ℕ, ℤ, pos, ◌+◌, ◌*◌, ◌<◌, ◌≤◌, true, List, [], length, Some, slice_index_or}
use Rattle.fixed_worth.specs.Prelude.{Line, value_read}
use Rattle.blocks_file.specs.declared.place.Place.{Place}
use Rattle.blocks_file.specs.Records.{place_of_record, columns_of, value_in, has_place_record, record_among}
use Rattle.blocks_file.specs.Denotes.{origin, IsModel}

-- The row has this value wherever this column was chosen, and is otherwise as it was.
pub record AreFilled (chosen : List ℕ) (column : ℕ) (value : ℤ) (old new : List ℤ) : Type 0 where
  pub size : length new ≡ length old
  pub here : (i : ℕ) → i < length chosen → slice_index_or chosen i 0 ≡ column → slice_index_or new i (pos 0) ≡ value
  pub others : (i : ℕ) → i < length chosen → slice_index_or chosen i 0 ≢ column
      → slice_index_or new i (pos 0) ≡ slice_index_or old i (pos 0)

-- The row has the field's value wherever this column was chosen, and is otherwise as it was.
pub record AreTaken (chosen : List ℕ) (column : ℕ) (field : List ℕ) (old new : List ℤ) : Type 0 where
  pub size : length new ≡ length old
  pub here : (i : ℕ) → i < length chosen → slice_index_or chosen i 0 ≡ column
      → value_read field ≡ Some (slice_index_or new i (pos 0))
  pub others : (i : ℕ) → i < length chosen → slice_index_or chosen i 0 ≢ column
      → slice_index_or new i (pos 0) ≡ slice_index_or old i (pos 0)

-- The row has the values of the chosen columns below k.
pub record IsRow (chosen : List ℕ) (columns : List (List ℕ)) (k : ℕ) (row : List ℤ) : Type 0 where
  pub size : length row ≡ length chosen
  pub each : (i : ℕ) → i < length chosen → slice_index_or chosen i 0 < k
      → value_read (slice_index_or columns (slice_index_or chosen i 0) []) ≡ Some (slice_index_or row i (pos 0))

-- The row has the values of the chosen columns.
pub record HoldsValues (chosen : List ℕ) (columns : List (List ℕ)) (row : List ℤ) : Type 0 where
  pub size : length row ≡ length chosen
  pub each : (i : ℕ) → i < length chosen → slice_index_or row i (pos 0) ≡ value_in columns (slice_index_or chosen i 0)

-- The row stands from this place on, and the other values are as they were.
pub record ArePut (from : ℕ) (row old new : List ℤ) : Type 0 where
  pub size : length new ≡ length old
  pub here : (i : ℕ) → i < length row → slice_index_or new (from + i) (pos 0) ≡ slice_index_or row i (pos 0)
  pub front : (k : ℕ) → k < from → slice_index_or new k (pos 0) ≡ slice_index_or old k (pos 0)
  pub after : (k : ℕ) → from + length row ≤ k → slice_index_or new k (pos 0) ≡ slice_index_or old k (pos 0)

-- Each of n blocks has a record among the lines, which gave its place and its values.
pub record AreKept (n : ℕ) (chosen : List ℕ) (lines : List Line) (places : List Place) (values : List ℤ) : Type 0 where
  pub model : IsModel n (length chosen) places values
  pub each : (b : ℕ) → b < n → has_place_record lines b ≡ true
  pub place : (b : ℕ) → b < n → slice_index_or places b origin ≡ place_of_record (record_among lines b)
  pub value : (b i : ℕ) → b < n → i < length chosen → slice_index_or values (b * length chosen + i) (pos 0) ≡ value_in
      (columns_of (record_among lines b)) (slice_index_or chosen i 0)
