-- What one value of a TOML document reads as.
use Rattle.std.specs.Bool.{nat_le}
use Rattle.std.specs.Prelude.{ℕ, ◌*◌, ◌&&◌, ◌==◌, Bool, true, cond, List, [], ◌∷◌, ◌++◌, length, Option, Some, None}
use Rattle.toml.specs.Data.{Data, Items, no_items, item, as_array}
use Rattle.toml_values.specs.Numbers.{whole_value_within}

-- The numbers of one item set before those of others; nothing where it or one of them didn't read.
abbrev pub put_before : {V : Type 0} → Option (List V) → Option (List V) → Option (List V)
put_before (Some vs) (Some ws) = Some (vs ++ ws)
put_before _ _ = None

-- The numbers that each item reads as, in one list in order, and nothing where an item doesn't read.
unfoldable pub all_rows : {V : Type 0} → (Data → Option (List V)) → Items → Option (List V)
all_rows reads no_items = Some []
all_rows reads (item d ds) = put_before (reads d) (all_rows reads ds)

-- one number as a row of its own; nothing where it didn't read
abbrev pub alone : Option ℕ → Option (List ℕ)
alone (Some n) = Some (n ∷ [])
alone None = None

-- What a value reads as that has to be a whole number from 0 to the most, as a row of its own.
abbrev pub number_row : ℕ → Data → Option (List ℕ)
number_row most d = alone (whole_value_within most d)

-- The numbers that the items of an array are: whole numbers from 0 to the most.
abbrev pub numbers_of_items : ℕ → Option Items → Option (List ℕ)
numbers_of_items most (Some ds) = all_rows (number_row most) ds
numbers_of_items most None = None

-- What a value reads as that has to be an array of whole numbers from 0 to the most.
abbrev pub numbers_of : ℕ → Data → Option (List ℕ)
numbers_of most d = numbers_of_items most (as_array d)

-- The list of which a test holds, and nothing else.
abbrev pub if_holds : {V : Type 0} → (List V → Bool) → Option (List V) → Option (List V)
if_holds test (Some vs) = cond (test vs) (Some vs) None
if_holds test None = None

-- The first of these, where there is one, is at most the number.
abbrev pub is_above_first : ℕ → List ℕ → Bool
is_above_first n [] = true
is_above_first n (m ∷ ms) = nat_le m n

-- No number is above the one before it.
unfoldable pub are_falling : List ℕ → Bool
are_falling [] = true
are_falling (n ∷ ns) = is_above_first n ns && are_falling ns

-- Numbers as weights must be: 1 to 1,000 of them, none above the one before it.
abbrev pub are_weights : List ℕ → Bool
are_weights ns = (nat_le 1 (length ns) && nat_le (length ns) 1000) && are_falling ns

-- What a value reads as that has to be weights: 1 to 1,000 whole numbers of millionths from 0 to 1,000,000, none above
-- the one before it.
abbrev pub weights_of : Data → Option (List ℕ)
weights_of d = if_holds are_weights (numbers_of 1000000 d)

-- What a value reads as that has to be columns: an array of at most 8, which are numbers from 0 to 65,535.
abbrev pub columns_of : Data → Option (List ℕ)
columns_of d = if_holds (λ ns. nat_le (length ns) 8) (numbers_of 65535 d)

-- A number that isn't zero.
abbrev pub if_some : Option ℕ → Option ℕ
if_some (Some n) = cond (nat_le 1 n) (Some n) None
if_some None = None

-- What a value reads as that has to be a lag: a whole number from 1 to 1,000.
abbrev pub lag_of : Data → Option ℕ
lag_of d = if_some (whole_value_within 1000 d)

-- What a value reads as that has to be a row: an array of so many whole numbers from 0 to the most.
abbrev pub row_value_within : (most width : ℕ) → Data → Option (List ℕ)
row_value_within most width d = if_holds (λ ns. length ns == width) (numbers_of most d)

-- The rows that the items of an array are, each of the width, in one list row by row.
abbrev pub rows_of_items : (most width : ℕ) → Option Items → Option (List ℕ)
rows_of_items most width (Some ds) = all_rows (row_value_within most width) ds
rows_of_items most width None = None

-- What a value reads as that has to be an array of so many rows of the width, in one list row by row.
abbrev pub rows_of : (most rows width : ℕ) → Data → Option (List ℕ)
rows_of most rows width d = if_holds (λ ns. length ns == rows * width) (rows_of_items most width (as_array d))
