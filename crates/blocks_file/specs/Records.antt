-- What a text of blocks says, over its list of lines.
use Rattle.std.specs.Prelude.{ℕ, ℤ, pos, negsuc, ◌^◌, ◌||◌, ◌&&◌, Bool, not, cond, List, [], ◌∷◌, ◌++◌, length, nat_lt}
use Rattle.std.specs.Prelude.{nat_le, int_lt, Option, Some, None, is_some, unwrap_or, Result, Ok, Err, slice_index_or}
use Rattle.std.specs.Prelude.{codes}
use Rattle.std.specs.Option.{option_or}
use Rattle.std.specs.List.{list_all, list_any, flat_map}
use Rattle.fixed_worth.specs.declared.limits.TheConstants.{MOST_BLOCKS, LINE_BYTES}
use Rattle.fixed_worth.specs.declared.numerals.NumberFault.{NumberFault}
use Rattle.fixed_worth.specs.Prelude.{signed_of, fields_of}
pub use Rattle.fixed_worth.specs.Decimal.{value_read}
pub use Rattle.fixed_worth.specs.Record.{Line, reads, is_skipped, lines_in, number_of, block_of, is_record_of}
use Rattle.blocks_file.specs.declared.place.Place.{Place}
use Rattle.blocks_file.specs.declared.blocks_fault.BlocksFault.{BlocksFault}
use Rattle.blocks_file.specs.declared.blocks_fault.BlocksFault.TheVariants.{Text, Number, NoColumn, UnknownBlock}
use Rattle.blocks_file.specs.declared.blocks_fault.BlocksFault.TheVariants.{Repeated, TooMany, NoMemory}
pub use Rattle.fixed_worth.specs.FaultText.{at_line}

-- A whole number of 32 bits; -(2 ^ 31) - 1 and 2 ^ 31 are the nearest that are none.
abbrev pub in_range : Result ℤ NumberFault → Option ℤ
in_range (Ok z) = cond (int_lt (negsuc (2 ^ 31)) z && int_lt z (pos (2 ^ 31))) (Some z) None
in_range (Err e) = None

-- The coordinate that a field is.
abbrev pub coordinate_read : List ℕ → Option ℤ
coordinate_read field = in_range (signed_of field)

-- The place that three fields are; a coordinate is 0 where its field is none.
abbrev pub place_at : List ℕ → List ℕ → List ℕ → Place
place_at x y z = record {
  x = unwrap_or (coordinate_read x) (pos 0);
  y = unwrap_or (coordinate_read y)
      (pos 0);
  z = unwrap_or (coordinate_read z) (pos 0);
}

-- A record's place: its second, third and fourth field.
abbrev pub place_of_record : List (List ℕ) → Place
place_of_record (block ∷ x ∷ y ∷ z ∷ columns) = place_at x y z
place_of_record _ = place_at [] [] []

-- A record's columns: the fields after its place.
abbrev pub columns_of : List (List ℕ) → List (List ℕ)
columns_of (block ∷ x ∷ y ∷ z ∷ columns) = columns
columns_of _ = []

-- The value of column c, in millionths; 0 where there is none.
abbrev pub value_in : List (List ℕ) → ℕ → ℤ
value_in columns c = unwrap_or (value_read (slice_index_or columns c [])) (pos 0)

-- Column c is there, and is no value.
abbrev pub is_bad : List (List ℕ) → ℕ → Bool
is_bad columns c = nat_lt c (length columns) && not (is_some (value_read (slice_index_or columns c [])))

-- The chosen columns are all below a number of columns.
abbrev pub are_there : List ℕ → ℕ → Bool
are_there chosen count = list_all (λ c. nat_lt c count) chosen

-- The first four fields are a block and a place.
abbrev pub head_reads : List ℕ → List ℕ → List ℕ → List ℕ → Bool
head_reads block x y z = reads block && is_some (coordinate_read x) && is_some (coordinate_read y) && is_some
    (coordinate_read z)

-- What is wrong with a record by itself: too few fields, what is no number, or a chosen column that is not there.
abbrev pub blocks_shape_fault : ℕ → List ℕ → List (List ℕ) → Option BlocksFault
blocks_shape_fault line chosen (block ∷ x ∷ y ∷ z ∷ columns) =
    cond (not (head_reads block x y z) || list_any (is_bad columns) chosen) (Some (Number line))
    (cond (not (are_there chosen (length columns))) (Some (NoColumn line))
    None)
blocks_shape_fault line chosen _ = Some (Text line)

-- What is wrong with a record for this block among n, where these had records before.
abbrev pub blocks_block_fault : ℕ → (ℕ → Bool) → ℕ → ℕ → Option BlocksFault
blocks_block_fault n had line block = cond (nat_le n block) (Some (UnknownBlock line))
    (cond (had block) (Some (Repeated line)) None)

-- What is wrong with a line's fields: a skipped line has no fault.
abbrev pub blocks_record_fault : ℕ → List ℕ → (ℕ → Bool) → ℕ → List (List ℕ) → Option BlocksFault
blocks_record_fault n chosen had line fields = cond (is_skipped fields) None
    (option_or (blocks_shape_fault line chosen fields) (blocks_block_fault n had line (block_of fields)))

-- A record of block b is among the lines.
abbrev pub has_place_record : List Line → ℕ → Bool
has_place_record lines b = list_any (λ l. is_record_of b (fields_of l.text)) lines

-- The fields of the first record of block b, if there is one.
abbrev pub record_among : List Line → ℕ → List (List ℕ)
record_among [] b = []
record_among (l ∷ lines) b = cond (is_record_of b (fields_of l.text)) (fields_of l.text) (record_among lines b)

-- The fault of the first faulty line, if any, after these lines.
abbrev pub first_blocks_fault : ℕ → List ℕ → List Line → List Line → Option BlocksFault
first_blocks_fault n chosen before [] = None
first_blocks_fault n chosen before (l ∷ lines) = option_or
    (blocks_record_fault n chosen (has_place_record before) l.number (fields_of l.text))
    (first_blocks_fault n chosen (before ++ l ∷ []) lines)

-- The fault of the first line of more than 65,536 bytes, if any, skipped or not.
abbrev pub long_fault : List Line → Option BlocksFault
long_fault [] = None
long_fault (l ∷ lines) = cond (nat_lt LINE_BYTES (length l.text)) (Some (Text l.number)) (long_fault lines)

-- The numbers of the lines that are records.
abbrev pub record_line_numbers : List Line → List ℕ
record_line_numbers lines = flat_map (λ l. cond (is_skipped (fields_of l.text)) [] (l.number ∷ [])) lines

-- More than 2^24 records are too many: the first after so many is the fault.
abbrev pub many_fault : List Line → Option BlocksFault
many_fault lines =
    let records = record_line_numbers lines in
    cond (nat_lt MOST_BLOCKS (length records)) (Some (TooMany (slice_index_or records MOST_BLOCKS 0))) None

-- The faults that come before all that is wrong with single records.
abbrev pub early_fault : List Line → Option BlocksFault
early_fault lines = option_or (long_fault lines) (many_fault lines)

-- The number of blocks of a text: that of its records.
abbrev pub record_count_of : List ℕ → ℕ
record_count_of text = length (record_line_numbers (lines_in text))

-- The fault of a text, where these columns are chosen.
abbrev pub blocks_fault_of : List ℕ → List ℕ → Option BlocksFault
blocks_fault_of chosen text = option_or (early_fault (lines_in text))
    (first_blocks_fault (record_count_of text) chosen [] (lines_in text))

-- The fault is want of memory, or the claim holds.
abbrev pub UnlessBlocksMemory : BlocksFault → Type 0 → Type 0
UnlessBlocksMemory NoMemory claim = Unit {0}
UnlessBlocksMemory _ claim = claim

-- The fault's name, with its line number in parentheses where it has one.
abbrev pub blocks_fault_text : BlocksFault → List ℕ
blocks_fault_text (Text line) = at_line (codes "Text") line
blocks_fault_text (Number line) = at_line (codes "Number") line
blocks_fault_text (NoColumn line) = at_line (codes "NoColumn") line
blocks_fault_text (UnknownBlock line) = at_line (codes "UnknownBlock") line
blocks_fault_text (Repeated line) = at_line (codes "Repeated") line
blocks_fault_text (TooMany line) = at_line (codes "TooMany") line
blocks_fault_text NoMemory = codes "NoMemory"
