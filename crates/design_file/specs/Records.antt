-- What a design says, over its list of lines.
use Rattle.std.specs.Prelude.{◌≡◌, ℕ, ◌<◌, ◌||◌, ◌&&◌, Bool, true, false, not, cond, List, [], ◌∷◌, ◌++◌, length, codes}
use Rattle.std.specs.Prelude.{nat_lt, nat_le, slice_set, slice_index_or, Option, Some, None}
use Rattle.std.specs.Option.{option_or}
use Rattle.std.specs.List.{flat_map}
use Rattle.fixed_worth.specs.declared.limits.TheConstants.{LINE_BYTES}
use Rattle.fixed_worth.specs.Prelude.{fields_of, at_line}
pub use Rattle.fixed_worth.specs.Record.{Line, lines_in, reads, number_of, is_remark, has}
use Rattle.design_file.specs.declared.design_fault.DesignFault.{DesignFault}
use Rattle.design_file.specs.declared.design_fault.DesignFault.TheVariants.{Text, Number, UnknownBlock, Repeated}
use Rattle.design_file.specs.declared.design_fault.DesignFault.TheVariants.{Truncated, NoMemory}
use Rattle.std.specs.Str.{bytes_eq}
use Rattle.design_file.specs.declared.design_fault.DesignFault.TheVariants as design

-- A certificate has lines that begin with this word, and they name no block of its pit.
abbrev pub is_beside_pit : List ℕ → Bool
is_beside_pit word =
    bytes_eq word (codes "PITCERT") || bytes_eq word (codes "BLOCKS") || bytes_eq word (codes "PRICE") || bytes_eq
    word (codes "GROUP")
    || bytes_eq word (codes "SOURCE") || bytes_eq word (codes "REST") || bytes_eq word (codes "SINK") || bytes_eq word
    (codes "END")

-- The line is passed over: it has no field, is a remark, or is one that a certificate has beside its pit.
abbrev pub is_passed : List (List ℕ) → Bool
is_passed [] = true
is_passed (field ∷ fields) = is_remark field || is_beside_pit field

-- The field that names the block of a line `b` or `PIT b`; none of a line of any other form.
abbrev pub design_block_word : List (List ℕ) → Option (List ℕ)
design_block_word [] = None
design_block_word (field ∷ []) = Some field
design_block_word (first ∷ second ∷ []) = cond (bytes_eq first (codes "PIT")) (Some second) None
design_block_word (first ∷ second ∷ third ∷ fields) = None

-- What is wrong with this field as the block of a line, if there is one, given which blocks were named before.
abbrev pub named_fault : ℕ → (ℕ → Bool) → ℕ → Option (List ℕ) → Option DesignFault
named_fault n had line None = Some (Text line)
named_fault n had line (Some word) =
    cond (not (reads word)) (Some (Number line))
    (cond (nat_le n (number_of word)) (Some (UnknownBlock line))
    (cond (had (number_of word)) (Some (Repeated line))
    None))

-- The fault of a line's fields: one that is passed over has none.
abbrev pub design_record_fault : ℕ → (ℕ → Bool) → ℕ → List (List ℕ) → Option DesignFault
design_record_fault n had line fields = cond (is_passed fields) None (named_fault n had line (design_block_word fields))

-- The fault of a line: one of more than 65,536 bytes is faulty even where it would be passed over.
abbrev pub design_line_fault : ℕ → (ℕ → Bool) → Line → Option DesignFault
design_line_fault n had l = cond (nat_lt LINE_BYTES (length l.text)) (Some (Text l.number))
    (design_record_fault n had l.number (fields_of l.text))

-- The block that a line names, if it names one.
abbrev pub design_block_in : Option (List ℕ) → List ℕ
design_block_in None = []
design_block_in (Some word) = number_of word ∷ []

abbrev pub design_blocks_of_fields : List (List ℕ) → List ℕ
design_blocks_of_fields fields = cond (is_passed fields) [] (design_block_in (design_block_word fields))

-- The blocks that the lines name, in their order.
abbrev pub design_blocks_of : List Line → List ℕ
design_blocks_of lines = flat_map (λ l. design_blocks_of_fields (fields_of l.text)) lines

-- The first of these fields is the word.
abbrev pub begins_with : List ℕ → List (List ℕ) → Bool
begins_with word [] = false
begins_with word (field ∷ fields) = bytes_eq field word

-- Whether a certificate is open after a line with these fields: a line `PITCERT` opens one, and a line `END` ends it.
abbrev pub is_open_after : Bool → List (List ℕ) → Bool
is_open_after is_open fields = begins_with (codes "PITCERT") fields ||
    (is_open && not (begins_with (codes "END") fields))

-- Whether a certificate is open after these lines, given whether one is before them.
abbrev pub is_left_open : Bool → List Line → Bool
is_left_open is_open [] = is_open
is_left_open is_open (l ∷ lines) = is_left_open (is_open_after is_open (fields_of l.text)) lines

-- The fault of a text that ends after these lines: a certificate that begins in it is cut off.
abbrev pub design_end_fault : List Line → Option DesignFault
design_end_fault lines = cond (is_left_open false lines) (Some Truncated) None

-- The fault of the first faulty line, if any, after these lines; and where there is none, that of the end.
abbrev pub first_design_fault : ℕ → List Line → List Line → Option DesignFault
first_design_fault n before [] = design_end_fault before
first_design_fault n before (l ∷ lines) = option_or (design_line_fault n (has (design_blocks_of before)) l)
    (first_design_fault n (before ++ l ∷ []) lines)

-- The fault of a text for n blocks, if any.
abbrev pub design_fault_of : ℕ → List ℕ → Option DesignFault
design_fault_of n text = first_design_fault n [] (lines_in text)

-- The design of a text, as a set of blocks: those that its lines name.
abbrev pub design_of : List ℕ → ℕ → Bool
design_of text b = has (design_blocks_of (lines_in text)) b

-- Each of the n blocks is marked where the design has it.
pub record AreMarks (n : ℕ) (text : List ℕ) (marks : List Bool) : Type 0 where
  pub size : length marks ≡ n
  pub at : (b : ℕ) → b < n → slice_index_or marks b false ≡ design_of text b

-- The marks with that of a block set, where a line names one.
abbrev pub set_in : List Bool → Option (List ℕ) → List Bool
set_in marks None = marks
set_in marks (Some word) = slice_set marks (number_of word) true

-- The marks once the line with these fields is read.
abbrev pub design_marks_after : List (List ℕ) → List Bool → List Bool
design_marks_after fields marks = cond (is_passed fields) marks (set_in marks (design_block_word fields))

-- The fault is want of memory, or the claim holds.
abbrev pub UnlessDesignMemory : DesignFault → Type 0 → Type 0
UnlessDesignMemory NoMemory claim = Unit {0}
UnlessDesignMemory _ claim = claim

-- The fault's name, and its line in brackets.
abbrev pub design_fault_text : DesignFault → List ℕ
design_fault_text (design.Text line) = at_line (codes "Text") line
design_fault_text (design.Number line) = at_line (codes "Number") line
design_fault_text (design.UnknownBlock line) = at_line (codes "UnknownBlock") line
design_fault_text (design.Repeated line) = at_line (codes "Repeated") line
design_fault_text design.Truncated = codes "Truncated"
design_fault_text design.NoMemory = codes "NoMemory"
