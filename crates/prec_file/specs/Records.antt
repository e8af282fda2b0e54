-- What a precedence file says, over its list of lines.
use Rattle.std.specs.Prelude.{ℕ, ◌+◌, ◌==◌, ◌||◌, Bool, not, cond, List, [], ◌∷◌, ◌++◌, length, map, nat_lt, nat_le}
use Rattle.std.specs.Prelude.{Option, Some, None}
use Rattle.std.specs.Option.{option_or}
use Rattle.std.specs.List.{list_all, list_any, flat_map}
use Rattle.fixed_worth.specs.declared.limits.TheConstants.{LINE_BYTES}
use Rattle.prec_file.specs.declared.limits.TheConstants.{MOST_PAIRS}
use Rattle.fixed_worth.specs.Text.{fields_of}
pub use Rattle.fixed_worth.specs.Record.{Line, lines_in, reads, number_of, is_skipped, block_of, has}
use Rattle.prec_file.specs.declared.prec_fault.PrecFault.{PrecFault}
use Rattle.prec_file.specs.declared.prec_fault.PrecFault.TheVariants.{Text, Number, UnknownBlock, Repeated, WrongCount}
use Rattle.prec_file.specs.declared.prec_fault.PrecFault.TheVariants.{TooMany, NoMemory}

-- How many predecessors a record says that it lists: its second field.
abbrev pub predecessor_count_of : List (List ℕ) → ℕ
predecessor_count_of [] = 0
predecessor_count_of (block ∷ fields) = block_of fields

-- The predecessors that a record lists: its fields from the third on.
abbrev pub predecessors_of : List (List ℕ) → List ℕ
predecessors_of [] = []
predecessors_of (block ∷ []) = []
predecessors_of (block ∷ count ∷ fields) = map number_of fields

-- What is wrong with a record by itself: too few fields, a field that is no number, or an unknown block.
unfoldable pub shape_fault : ℕ → ℕ → List (List ℕ) → Option PrecFault
shape_fault n line fields =
    cond (nat_lt (length fields) 2) (Some (Text line))
    (cond (not (list_all reads fields)) (Some (Number line))
    (cond (nat_le n (block_of fields) || list_any (nat_le n) (predecessors_of fields)) (Some (UnknownBlock line))
    None))

-- What is wrong with a record, given which blocks had records before and how many predecessors these listed.
unfoldable pub history_fault : (ℕ → Bool) → ℕ → ℕ → List (List ℕ) → Option PrecFault
history_fault had before line fields =
    cond (had (block_of fields)) (Some (Repeated line))
    (cond (not (predecessor_count_of fields == length (predecessors_of fields))) (Some (WrongCount line))
    (cond (nat_lt MOST_PAIRS (before + length (predecessors_of fields))) (Some (TooMany line))
    None))

-- The fault of a line's fields: a skipped line has none.
abbrev pub record_fault : ℕ → (ℕ → Bool) → ℕ → ℕ → List (List ℕ) → Option PrecFault
record_fault n had before line fields = cond (is_skipped fields) None
    (option_or (shape_fault n line fields) (history_fault had before line fields))

-- The fault of a line: one of more than 65,536 bytes is faulty even where it would be skipped.
abbrev pub line_fault : ℕ → (ℕ → Bool) → ℕ → Line → Option PrecFault
line_fault n had before l = cond (nat_lt LINE_BYTES (length l.text)) (Some (Text l.number))
    (record_fault n had before l.number (fields_of l.text))

-- The block whose record a line is, if it is one.
abbrev pub blocks_of_fields : List (List ℕ) → List ℕ
blocks_of_fields fields = cond (is_skipped fields) [] (block_of fields ∷ [])

-- The pairs that a line lists: its block with each of its predecessors.
abbrev pub pairs_in : List (List ℕ) → List (ℕ × ℕ)
pairs_in fields = cond (is_skipped fields) [] (map (λ p. (block_of fields, p)) (predecessors_of fields))

-- The blocks whose records the lines are.
abbrev pub blocks_of : List Line → List ℕ
blocks_of lines = flat_map (λ l. blocks_of_fields (fields_of l.text)) lines

-- The pairs that the lines list, in their order.
abbrev pub pairs_of : List Line → List (ℕ × ℕ)
pairs_of lines = flat_map (λ l. pairs_in (fields_of l.text)) lines

-- The fault of a line after other lines.
abbrev pub fault_after : ℕ → List Line → Line → Option PrecFault
fault_after n before l = line_fault n (has (blocks_of before)) (length (pairs_of before)) l

-- The fault of the first faulty line, if any, after these lines.
abbrev pub first_fault : ℕ → List Line → List Line → Option PrecFault
first_fault n before [] = None
first_fault n before (l ∷ lines) = option_or (fault_after n before l) (first_fault n (before ++ l ∷ []) lines)

-- The fault of a text for n blocks, if any.
abbrev pub fault_of : ℕ → List ℕ → Option PrecFault
fault_of n text = first_fault n [] (lines_in text)

-- The pairs that a text lists, in its order.
abbrev pub pairs_of_text : List ℕ → List (ℕ × ℕ)
pairs_of_text text = pairs_of (lines_in text)

-- The fault is want of memory, or the claim holds.
abbrev pub UnlessMemory : PrecFault → Type 0 → Type 0
UnlessMemory NoMemory claim = Unit {0}
UnlessMemory _ claim = claim
