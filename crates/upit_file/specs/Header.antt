-- The header of a text: where it ends, what it declares, and what is wrong with it.
use Rattle.std.specs.Prelude.{ℕ, ◌+◌, ◌==◌, ◌||◌, Bool, true, false, not, cond, List, [], ◌∷◌, length, drop, take}
use Rattle.std.specs.Prelude.{nat_lt, Option, Some, None, is_some, codes}
use Rattle.std.specs.Option.{option_or}
use Rattle.std.specs.Str.{bytes_eq}
use Rattle.fixed_worth.specs.declared.limits.TheConstants.{MOST_BLOCKS, LINE_BYTES}
use Rattle.upit_file.specs.declared.limits.TheConstants.{NAME_BYTES}
use Rattle.fixed_worth.specs.Prelude.{WordRun, fields_of, runs_from, Line, reads, number_of}
use Rattle.upit_file.specs.declared.key.Key.{Key}
use Rattle.upit_file.specs.declared.key.Key.TheVariants.{Name, FileType, Blocks, Objective, End, Other}
use Rattle.upit_file.specs.declared.upit_fault.UpitFault.{UpitFault}
use Rattle.upit_file.specs.declared.upit_fault.UpitFault.TheVariants.{Text, Number, NoObjective, NotUpit, WrongBlocks}

-- The line has more than 65,536 bytes: a fault, whatever it holds.
abbrev pub is_long : Line → Bool
is_long l = nat_lt LINE_BYTES (length l.text)

-- The fields of a line. A line that is too long has none.
abbrev pub fields_in : Line → List (List ℕ)
fields_in l = cond (is_long l) [] (fields_of l.text)

-- The key that a word is. Keys are in upper case.
abbrev pub key_of : List ℕ → Key
key_of word =
    cond (bytes_eq word (codes "NAME")) Name
    (cond (bytes_eq word (codes "TYPE")) FileType
    (cond (bytes_eq word (codes "NBLOCKS")) Blocks
    (cond (bytes_eq word (codes "OBJECTIVE_FUNCTION")) Objective
    Other)))

-- A record that is EOF alone: the end of the text.
abbrev pub is_eof : List (List ℕ) → Bool
is_eof [] = false
is_eof (word ∷ []) = bytes_eq word (codes "EOF")
is_eof (word ∷ field ∷ fields) = false

-- The key of a record. Lines that are skipped have none of the keys, which do not begin with a percent sign.
abbrev pub key_in : List (List ℕ) → Key
key_in [] = Other
key_in (word ∷ fields) = cond (is_eof (word ∷ fields)) End (key_of word)

-- The header ends at OBJECTIVE_FUNCTION or EOF.
abbrev pub ends_header : Key → Bool
ends_header Objective = true
ends_header End = true
ends_header _ = false

-- The lines before the one that ends the header.
abbrev pub header : List Line → List Line
header [] = []
header (l ∷ ls) = cond (ends_header (key_in (fields_in l))) [] (l ∷ header ls)

-- The lines from the one on that ends the header.
abbrev pub after_header : List Line → List Line
after_header [] = []
after_header (l ∷ ls) = cond (ends_header (key_in (fields_in l))) (l ∷ ls) (after_header ls)

-- Where the last of these fields ends; e where there is none.
abbrev pub last_end : ℕ → List WordRun → ℕ
last_end e [] = e
last_end e (field ∷ fields) = last_end (field.place + length field.text) fields

-- The line from its second field's first byte to its last field's last; nothing where there is no second field.
abbrev pub from_second : List ℕ → List WordRun → List ℕ
from_second line [] = []
from_second line (key ∷ []) = []
from_second line (key ∷ field ∷ fields) = drop field.place (take (last_end 0 (field ∷ fields)) line)

-- The name that a NAME record gives, whose line this is.
abbrev pub name_in : List ℕ → List ℕ
name_in line = from_second line (runs_from 0 line)

-- The name after a line with this key: a NAME record gives it, and any other line leaves it.
abbrev pub name_after : List ℕ → Key → List ℕ → List ℕ
name_after name Name line = name_in line
name_after name _ line = name

-- The name that the last NAME record of these lines gives, and the name before them where there is none.
abbrev pub last_name : List ℕ → List Line → List ℕ
last_name name [] = name
last_name name (l ∷ ls) = last_name (name_after name (key_in (fields_in l)) l.text) ls

-- The number of blocks that an NBLOCKS record names; 0 where it names none.
abbrev pub nblocks_of : List (List ℕ) → ℕ
nblocks_of [] = 0
nblocks_of (key ∷ []) = 0
nblocks_of (key ∷ count ∷ fields) = number_of count

-- The number of blocks that a record names, where its key is NBLOCKS.
abbrev pub count_at : Key → List (List ℕ) → Option ℕ
count_at Blocks fields = Some (nblocks_of fields)
count_at _ fields = None

-- The number of blocks that the first NBLOCKS record names, if there is one.
abbrev pub first_count : List Line → Option ℕ
first_count [] = None
first_count (l ∷ ls) = option_or (count_at (key_in (fields_in l)) (fields_in l)) (first_count ls)

-- What is wrong with an NBLOCKS record where n blocks are wanted.
abbrev pub count_fault : ℕ → ℕ → List (List ℕ) → Option UpitFault
count_fault n line [] = Some (Text line)
count_fault n line (key ∷ []) = Some (Text line)
count_fault n line (key ∷ count ∷ fields) =
    cond (not (reads count)) (Some (Number line))
    (cond (not (number_of count == n) || nat_lt MOST_BLOCKS (number_of count)) (Some (WrongBlocks line))
    None)

-- What is wrong with a TYPE record.
abbrev pub type_fault : ℕ → List (List ℕ) → Option UpitFault
type_fault line [] = Some (NotUpit line)
type_fault line (key ∷ []) = Some (NotUpit line)
type_fault line (key ∷ word ∷ fields) = cond (bytes_eq word (codes "UPIT")) None (Some (NotUpit line))

-- What is wrong with a NAME record, whose line this is.
abbrev pub name_fault : ℕ → List ℕ → Option UpitFault
name_fault line text = cond (nat_lt NAME_BYTES (length (name_in text))) (Some (Text line)) None

-- What is wrong with a record by its key.
abbrev pub key_fault : ℕ → Line → Key → List (List ℕ) → Option UpitFault
key_fault n l Name fields = name_fault l.number l.text
key_fault n l FileType fields = type_fault l.number fields
key_fault n l Blocks fields = count_fault n l.number fields
key_fault n l _ fields = None

-- What is wrong with a line of the header.
abbrev pub header_line_fault : ℕ → Line → Option UpitFault
header_line_fault n l = cond (is_long l) (Some (Text l.number)) (key_fault n l (key_in (fields_in l)) (fields_in l))

-- The fault of the first faulty line of these, if any.
abbrev pub header_lines_fault : ℕ → List Line → Option UpitFault
header_lines_fault n [] = None
header_lines_fault n (l ∷ ls) = option_or (header_line_fault n l) (header_lines_fault n ls)

-- What is wrong with the line that ends the header, where an NBLOCKS record came or not.
abbrev pub last_fault : Bool → ℕ → Key → Option UpitFault
last_fault counted line End = Some (NoObjective line)
last_fault counted line _ = cond counted None (Some (WrongBlocks line))

-- What is wrong where the header ends: these lines are left, so many lines are in the text, and NBLOCKS came or not.
abbrev pub upit_end_fault : Bool → ℕ → List Line → Option UpitFault
upit_end_fault counted count [] = Some (NoObjective count)
upit_end_fault counted count (l ∷ ls) = last_fault counted l.number (key_in (fields_in l))

-- The first fault of the header where n blocks are wanted.
abbrev pub header_fault : ℕ → List Line → Option UpitFault
header_fault n ls = option_or (header_lines_fault n (header ls))
    (upit_end_fault (is_some (first_count (header ls))) (length ls) (after_header ls))
