-- What a text of block values says, over its list of lines.
use Rattle.std.specs.Prelude.{◌≡◌, ℕ, ℤ, ◌-◌, ◌<◌, ◌==◌, ◌&&◌, ◌||◌, Bool, not, nat_le, slice_index, List, [], length}
use Rattle.std.specs.Prelude.{Option, Some, None, unwrap_or, Result, Ok, Err, get_or, pos, codes}
use Rattle.std.specs.Option.{option_or}
use Rattle.std.specs.List.{list_any}
use Rattle.fixed_worth.specs.declared.limits.TheConstants.{MOST_BLOCKS}
use Rattle.upit_file.specs.declared.limits.TheConstants.{NAME_BYTES}
use Rattle.fixed_worth.specs.Text.{is_separator}
pub use Rattle.fixed_worth.specs.Record.{Line, lines_in}
use Rattle.upit_file.specs.declared.upit_fault.UpitFault.{UpitFault}
use Rattle.upit_file.specs.declared.upit_fault.UpitFault.TheVariants.{NoMemory, Text, Number, NoObjective, NotUpit}
use Rattle.upit_file.specs.declared.upit_fault.UpitFault.TheVariants.{WrongBlocks, UnknownBlock, Repeated}
use Rattle.upit_file.specs.Header.{header, last_name, first_count, header_fault}
use Rattle.upit_file.specs.Body.{body, first_upit_fault, value_among}
pub use Rattle.fixed_worth.specs.FaultText.{at_line}

-- n where nothing is wrong, and otherwise what is.
abbrev pub unless_upit_fault : ℕ → Option UpitFault → Result ℕ UpitFault
unless_upit_fault n None = Ok n
unless_upit_fault n (Some e) = Err e

-- The number of blocks that the first NBLOCKS record of the header names; 0 where there is none.
abbrev pub blocks_declared : List Line → ℕ
blocks_declared ls = unwrap_or (first_count (header ls)) 0

-- The number of blocks that the text declares, or the first fault of its header.
abbrev pub declared_of : List ℕ → Result ℕ UpitFault
declared_of text = unless_upit_fault (blocks_declared (lines_in text))
    (header_fault (blocks_declared (lines_in text)) (lines_in text))

-- The first fault of the text where n blocks are wanted.
abbrev pub upit_fault_of : ℕ → List ℕ → Option UpitFault
upit_fault_of n text = option_or (header_fault n (lines_in text)) (first_upit_fault n [] (body (lines_in text)))

-- The value of block b in millionths.
abbrev pub upit_value_at : List ℕ → ℕ → ℤ
upit_value_at text b = value_among (body (lines_in text)) b

-- What the type shows: a name, and the value of each block in millionths.
pub record UpitView : Type 0 where
  pub name : List ℕ
  pub values : List ℤ

-- The name is empty, or has at most 60,000 bytes, none of them a line feed (10), of which the first and the last are no
-- separators.
abbrev pub is_name : List ℕ → Bool
is_name name =
    (length name == 0)
    || (nat_le (length name) NAME_BYTES && not (list_any (λ b. b == 10) name) && not
    (is_separator (slice_index name 0)) && not (is_separator (slice_index name (length name - 1))))

-- What the type can hold: such a name, and at most 2^24 values.
abbrev pub is_upit : List ℕ → List ℤ → Bool
is_upit name values = is_name name && nat_le (length values) MOST_BLOCKS

-- The values and the name are those that the text gives to n blocks.
pub record DenotesValues (n : ℕ) (text : List ℕ) (upit : UpitView) : Type 0 where
  pub count : length upit.values ≡ n
  pub worth : (b : ℕ) → b < n → get_or upit.values b (pos 0) ≡ upit_value_at text b
  pub named : upit.name ≡ last_name [] (header (lines_in text))

-- The fault is want of memory, or P holds.
abbrev pub UnlessUpitMemory : UpitFault → Type 0 → Type 0
UnlessUpitMemory NoMemory P = Unit {0}
UnlessUpitMemory _ P = P

-- The fault's name, with its line number in parentheses where it has one.
abbrev pub upit_fault_text : UpitFault → List ℕ
upit_fault_text (Text line) = at_line (codes "Text") line
upit_fault_text (Number line) = at_line (codes "Number") line
upit_fault_text (NoObjective line) = at_line (codes "NoObjective") line
upit_fault_text (NotUpit line) = at_line (codes "NotUpit") line
upit_fault_text (WrongBlocks line) = at_line (codes "WrongBlocks") line
upit_fault_text (UnknownBlock line) = at_line (codes "UnknownBlock") line
upit_fault_text (Repeated line) = at_line (codes "Repeated") line
upit_fault_text NoMemory = codes "NoMemory"
