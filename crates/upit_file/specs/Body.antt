-- The records after the header: a block and its value each.
use Rattle.std.specs.Prelude.{ℕ, ℤ, pos, ◌&&◌, Bool, cond, List, [], ◌∷◌, ◌++◌, drop, nat_le, Option, Some, None}
use Rattle.std.specs.Prelude.{is_some, unwrap_or, ◌≡◌, true, false, IsTrue}
use Rattle.std.specs.Option.{option_or}
use Rattle.std.specs.List.{list_any}
pub use Rattle.fixed_worth.specs.Decimal.{value_read}
pub use Rattle.fixed_worth.specs.Record.{Line, reads, is_skipped, block_of, is_record_of}
use Rattle.upit_file.specs.declared.upit_fault.UpitFault.{UpitFault}
use Rattle.upit_file.specs.declared.upit_fault.UpitFault.TheVariants.{Text, Number, UnknownBlock, Repeated}
use Rattle.upit_file.specs.Header.{is_long, fields_in, is_eof, after_header}
use Rattle.upit_file.specs.declared.record.Record.{Record}
use Rattle.upit_file.specs.declared.record.Record.TheVariants.{Skipped, End, Value}

-- The value that a record gives, in millionths: its second field.
abbrev pub value_of_record : List (List ℕ) → ℤ
value_of_record [] = pos 0
value_of_record (block ∷ []) = pos 0
value_of_record (block ∷ value ∷ fields) = unwrap_or (value_read value) (pos 0)

-- What is wrong with a record by itself.
abbrev pub upit_shape_fault : ℕ → List (List ℕ) → Option UpitFault
upit_shape_fault line (block ∷ value ∷ []) = cond (reads block && is_some (value_read value)) None (Some (Number line))
upit_shape_fault line _ = Some (Text line)

-- What is wrong with a record for this block, where these had records before.
abbrev pub upit_block_fault : ℕ → (ℕ → Bool) → ℕ → ℕ → Option UpitFault
upit_block_fault n had line block = cond (nat_le n block) (Some (UnknownBlock line))
    (cond (had block) (Some (Repeated line)) None)

-- What is wrong with the fields of a line, where these blocks had records before.
abbrev pub upit_record_fault : ℕ → (ℕ → Bool) → ℕ → List (List ℕ) → Option UpitFault
upit_record_fault n had line fields = cond (is_skipped fields) None
    (option_or (upit_shape_fault line fields) (upit_block_fault n had line (block_of fields)))

-- What is wrong with a line, where these blocks had records before.
abbrev pub upit_line_fault : ℕ → (ℕ → Bool) → Line → Option UpitFault
upit_line_fault n had l = cond (is_long l) (Some (Text l.number)) (upit_record_fault n had l.number (fields_in l))

-- A record of block b is among the lines.
abbrev pub has_value_record : List Line → ℕ → Bool
has_value_record ls b = list_any (λ l. is_record_of b (fields_in l)) ls

-- The value of block b: that of its first record, and 0 where it has none.
abbrev pub value_among : List Line → ℕ → ℤ
value_among [] b = pos 0
value_among (l ∷ ls) b = cond (is_record_of b (fields_in l)) (value_of_record (fields_in l)) (value_among ls b)

-- The fault of the first faulty line, if any, after these lines.
abbrev pub first_upit_fault : ℕ → List Line → List Line → Option UpitFault
first_upit_fault n before [] = None
first_upit_fault n before (l ∷ ls) = option_or (upit_line_fault n (has_value_record before) l)
    (first_upit_fault n (before ++ l ∷ []) ls)

-- The lines before the one that ends the text.
abbrev pub before_end : List Line → List Line
before_end [] = []
before_end (l ∷ ls) = cond (is_eof (fields_in l)) [] (l ∷ before_end ls)

-- The lines between the header's last and the end.
abbrev pub body : List Line → List Line
body ls = before_end (drop 1 (after_header ls))

-- The fields are those of such a record.
abbrev pub IsRecord : ℕ → List (List ℕ) → Record → Type 0
IsRecord line fields Skipped = (is_skipped fields ≡ true) × (is_eof fields ≡ false)
IsRecord line fields End = IsTrue (is_eof fields)
IsRecord line fields (Value block value) = (is_skipped fields ≡ false) × (is_eof fields ≡ false)
    × (upit_shape_fault line fields ≡ None) × (block ≡ block_of fields) × (value ≡ value_of_record fields)
