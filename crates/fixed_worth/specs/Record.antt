-- Records of a text: numbered lines, whole numbers in their fields, and which lines are skipped.
use Rattle.std.specs.Prelude.{ℕ, ◌+◌, ◌==◌, ◌&&◌, Bool, true, false, not, List, [], ◌∷◌, Option, Some, None, Result}
use Rattle.std.specs.Prelude.{is_ok}
use Rattle.std.specs.List.{list_any}
use Rattle.std.specs.Result.{result_unwrap_or}
use Rattle.fixed_worth.specs.declared.numerals.NumberFault.{NumberFault}
use Rattle.fixed_worth.specs.Numeral.{whole_of}
use Rattle.fixed_worth.specs.Text.{WordRun, lines_of}

-- A line and its number.
pub record Line : Type 0 where
  pub number : ℕ
  pub text : List ℕ

-- The lines, numbered from k + 1 on.
abbrev pub numbered_lines : ℕ → List (List ℕ) → List Line
numbered_lines k [] = []
numbered_lines k (text ∷ texts) = record { number = k + 1; text = text } ∷ numbered_lines (k + 1) texts

-- The lines of a text, numbered from 1 on.
abbrev pub lines_in : List ℕ → List Line
lines_in text = numbered_lines 0 (lines_of text)

-- The field is a whole number.
abbrev pub reads : List ℕ → Bool
reads field = is_ok (whole_of field)

-- The whole number that a field is; 0 where it is none.
abbrev pub number_of : List ℕ → ℕ
number_of field = result_unwrap_or (whole_of field) 0

-- The block that a record is for: its first field.
abbrev pub block_of : List (List ℕ) → ℕ
block_of [] = 0
block_of (block ∷ fields) = number_of block

-- The block is among these.
abbrev pub has : List ℕ → ℕ → Bool
has blocks b = list_any (λ x. x == b) blocks

-- The whole number that the first of the fields is, or why it is none, where there is a field.
abbrev pub first_whole : List WordRun → Option (Result ℕ NumberFault)
first_whole [] = None
first_whole (field ∷ fields) = Some (whole_of field.text)

-- The field begins with a percent sign: its line is a remark.
abbrev pub is_remark : List ℕ → Bool
is_remark [] = false
is_remark (b ∷ bs) = b == 37

-- The line has no field, or is a remark.
abbrev pub is_skipped : List (List ℕ) → Bool
is_skipped [] = true
is_skipped (field ∷ fields) = is_remark field

-- The fields are those of a record for block b.
abbrev pub is_record_of : ℕ → List (List ℕ) → Bool
is_record_of b fields = not (is_skipped fields) && (block_of fields == b)
