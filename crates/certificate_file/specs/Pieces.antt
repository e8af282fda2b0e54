-- A text as pieces between line feeds, and a line as words between spaces.
use Rattle.std.specs.Prelude.{◌≡◌, ℕ, ℤ, pos, ◌+◌, ◌==◌, Bool, true, false, cond, List, [], ◌∷◌, length, nat_lt}
use Rattle.std.specs.Prelude.{slice_index_or, Option, Some, None, Result, Ok, Err}
use Rattle.fixed_worth.specs.declared.limits.TheConstants.{LINE_BYTES}
use Rattle.fixed_worth.specs.declared.numerals.NumberFault.{NumberFault}
use Rattle.fixed_worth.specs.Prelude.{plain_of, parts}
use Rattle.certificate_file.specs.declared.cert_fault.CertFault.{CertFault}
use Rattle.certificate_file.specs.declared.cert_fault.CertFault.TheVariants as fault
use Rattle.certificate_file.specs.declared.cert_fault.LineFault.{LineFault}
use Rattle.certificate_file.specs.declared.cert_fault.LineFault.TheVariants.{Text, Number}

-- a piece of a text: what stands before a line feed or after the last one, and whether a line feed ends it
pub record Piece : Type 0 where
  pub text : List ℕ
  pub ended : Bool

-- the pieces with a byte set before the first
abbrev pub onto_piece : ℕ → List Piece → List Piece
onto_piece b [] = record { text = b ∷ []; ended = false } ∷ []
onto_piece b (p ∷ ps) = record { text = b ∷ p.text; ended = p.ended } ∷ ps

-- the pieces of a text; after a last line feed there is none
abbrev pub pieces_of : List ℕ → List Piece
pieces_of [] = []
pieces_of (b ∷ bs) = cond (b == 10) (record { text = []; ended = true } ∷ pieces_of bs) (onto_piece b (pieces_of bs))

-- the words of a line, which single spaces divide: one more than there are spaces
abbrev pub words_of : List ℕ → List (List ℕ)
words_of line = parts 32 line

-- the pieces that are left of a text, and the number of the line last read
pub record Unread : Type 0 where
  pub pieces : List Piece
  pub number : ℕ

-- the piece at a place: where a text has no more, an empty one without a line feed
abbrev pub piece_at : List Piece → ℕ → Piece
piece_at ps k = slice_index_or ps k (record { text = []; ended = false })

-- why a piece is no line: it is too long, or no line feed ends it
abbrev pub piece_fault : ℕ → Piece → Option CertFault
piece_fault k p = cond (nat_lt LINE_BYTES (length p.text)) (Some (fault.Text k))
    (cond p.ended None (Some fault.Truncated))

-- what a line gives, or its fault with its number
abbrev pub in_line : {A : Type 0} → ℕ → Result A LineFault → Result A CertFault
in_line k (Ok a) = Ok a
in_line k (Err Text) = Err (fault.Text k)
in_line k (Err Number) = Err (fault.Number k)

-- a fault, or else what is read
abbrev pub unless_cert_fault : {A : Type 0} → Option CertFault → Result A CertFault → Result A CertFault
unless_cert_fault (Some e) r = Err e
unless_cert_fault None r = r

-- what f makes of the line that a piece is
abbrev pub read_line : {A : Type 0} → (List ℕ → Result A LineFault) → ℕ → Piece → Result A CertFault
read_line f k p = unless_cert_fault (piece_fault k p) (in_line k (f p.text))

-- a number that is at least 0 and below the limit
abbrev pub whole_below : ℕ → Result ℤ NumberFault → Option ℕ
whole_below limit (Ok (pos k)) = cond (nat_lt k limit) (Some k) None
whole_below limit _ = None

-- the number that a word is in its one spelling, where it is at least 0 and below the limit
abbrev pub number_below : ℕ → List ℕ → Option ℕ
number_below limit word = whole_below limit (plain_of word)

-- The first piece is a line of which f makes x, and the others are left.
pub record IsPieceRead {A : Type 0} (f : List ℕ → Result A LineFault) (before later : Unread) (x : A) : Type 0 where
  pub piece : Piece
  pub pieces : before.pieces ≡ piece ∷ later.pieces
  pub number : later.number ≡ before.number + 1
  pub read : read_line f later.number piece ≡ Ok x
