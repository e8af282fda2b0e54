-- The first four lines of a certificate.
use Rattle.std.specs.Prelude.{ℕ, ◌+◌, ◌==◌, ◌&&◌, Bool, cond, List, [], ◌∷◌, Option, Some, None, Result, Ok, Err}
use Rattle.std.specs.Str.{bytes_eq}
use lib.Chars.{codes}
use Rattle.fixed_worth.specs.declared.limits.TheConstants.{MOST_BLOCKS, MOST_FACTOR}
use Rattle.ordered_group.specs.declared.groups.Group.{Group}
use Rattle.ordered_group.specs.Group.{group_name, group_of}
use Rattle.certificate_file.specs.declared.header.Header.{Header}
use Rattle.certificate_file.specs.declared.header.Wanted.{Wanted}
use Rattle.certificate_file.specs.declared.header.Version.{Version}
use Rattle.certificate_file.specs.declared.header.Version.TheVariants.{One, Two}
use Rattle.certificate_file.specs.declared.header.Price.{Price}
use Rattle.certificate_file.specs.declared.header.Price.TheVariants.{Objective, Factor, Mill}
use Rattle.certificate_file.specs.declared.cert_fault.CertFault.{CertFault}
use Rattle.certificate_file.specs.declared.cert_fault.LineFault.{LineFault}
use Rattle.certificate_file.specs.declared.cert_fault.LineFault.TheVariants.{Text, Number}
use Rattle.certificate_file.specs.Pieces.{Piece, piece_at, read_line, words_of, number_below}

-- the second of two words, of which the first is the key
abbrev pub value_after : List ℕ → List (List ℕ) → Option (List ℕ)
value_after key (k ∷ v ∷ []) = cond (bytes_eq k key) (Some v) None
value_after key _ = None

-- the third of three words, of which the first two are the keys
abbrev pub value_after_both : List ℕ → List ℕ → List (List ℕ) → Option (List ℕ)
value_after_both key other (k ∷ o ∷ v ∷ []) = cond (bytes_eq k key && bytes_eq o other) (Some v) None
value_after_both key other _ = None

-- what is read of a number, or that it is none
abbrev pub or_number : {A : Type 0} → Option A → Result A LineFault
or_number (Some a) = Ok a
or_number None = Err Number

-- the version that a line names: PITCERT 1 or PITCERT 2
abbrev pub version_in : List ℕ → Result Version LineFault
version_in text = cond (bytes_eq text (codes "PITCERT 1")) (Ok One)
    (cond (bytes_eq text (codes "PITCERT 2")) (Ok Two) (Err Text))

-- the number of blocks, where it is the one that is wanted
abbrev pub wanted_blocks : Option Wanted → Option ℕ → Option ℕ
wanted_blocks None o = o
wanted_blocks (Some wanted) None = None
wanted_blocks (Some wanted) (Some n) = cond (n == wanted.blocks) (Some n) None

-- the number of blocks that a word says
abbrev pub blocks_said : Option Wanted → Option (List ℕ) → Result ℕ LineFault
blocks_said wanted None = Err Text
blocks_said wanted (Some word) = or_number (wanted_blocks wanted (number_below (MOST_BLOCKS + 1) word))

-- the number of blocks of a line BLOCKS n: at most `MOST_BLOCKS`, which is 2^24
abbrev pub blocks_in : Option Wanted → List ℕ → Result ℕ LineFault
blocks_in wanted text = blocks_said wanted (value_after (codes "BLOCKS") (words_of text))

-- the price at a factor
abbrev pub factor_of : Option ℕ → Option Price
factor_of (Some k) = Some (Factor k)
factor_of None = None

-- the price that a word says
abbrev pub price_said : Option (List ℕ) → Result Price LineFault
price_said None = Err Text
price_said (Some word) = cond (bytes_eq word (codes "OBJECTIVE")) (Ok Objective)
    (or_number (factor_of (number_below (MOST_FACTOR + 1) word)))

-- the price at a factor where there is a mill
abbrev pub mill_of : Option ℕ → Option Price
mill_of (Some k) = Some (Mill k)
mill_of None = None

-- the price at a factor that a word says, from 0 to 10,000, where there is a mill
abbrev pub mill_said : Option (List ℕ) → Result Price LineFault
mill_said None = Err Text
mill_said (Some word) = or_number (mill_of (number_below (MOST_FACTOR + 1) word))

-- the price of a line: PRICE OBJECTIVE, or PRICE k with a factor from 0 to 10,000; in a text of the second version
-- PRICE MILL k and nothing else
abbrev pub price_in : Version → List ℕ → Result Price LineFault
price_in One text = price_said (value_after (codes "PRICE") (words_of text))
price_in Two text = mill_said (value_after_both (codes "PRICE") (codes "MILL") (words_of text))

-- the group, where its name is that of the one that is wanted
abbrev pub wanted_group : Option Wanted → Group → Result Group LineFault
wanted_group None group = Ok group
wanted_group (Some wanted) group = cond (bytes_eq (group_name wanted.group) (group_name group)) (Ok group) (Err Text)

-- the group that is read of a word, if it names one
abbrev pub group_named : Option Wanted → Option Group → Result Group LineFault
group_named wanted None = Err Text
group_named wanted (Some group) = wanted_group wanted group

-- the group that a word says
abbrev pub group_said : Option Wanted → Option (List ℕ) → Result Group LineFault
group_said wanted None = Err Text
group_said wanted (Some word) = group_named wanted (group_of word)

-- the group of a line: GROUP and the word of a kind of amount
abbrev pub group_in : Option Wanted → List ℕ → Result Group LineFault
group_in wanted text = group_said wanted (value_after (codes "GROUP") (words_of text))

-- a result, and what is made of it where it is no fault
infixl 10 ◌>>=◌
abbrev pub ◌>>=◌ : {A B : Type 0} → Result A CertFault → (A → Result B CertFault) → Result B CertFault
Ok a >>= f = f a
Err e >>= f = Err e

-- the header that the first four pieces are, with these blocks and this group where any are wanted
abbrev pub header_for : Option Wanted → List Piece → Result Header CertFault
header_for wanted ps = do
  version ← read_line version_in 1 (piece_at ps 0)
  blocks ← read_line (blocks_in wanted) 2 (piece_at ps 1)
  price ← read_line (price_in version) 3 (piece_at ps 2)
  group ← read_line (group_in wanted) 4 (piece_at ps 3)
  Ok (record { blocks = blocks; price = price; group = group })

-- the header of a text by itself
abbrev pub header_of : List Piece → Result Header CertFault
header_of ps = header_for None ps
