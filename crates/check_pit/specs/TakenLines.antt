-- Lines that are taken from a stream, by what a line with its number gives.
use Rattle.std.specs.Prelude.{◌≡◌, ℕ, ◌+◌, ◌<◌, ◌≤◌, true, List, [], ◌++◌, length, take, drop, Option, Result, Ok, Err}
use Rattle.std.specs.Io.KnownBytes.{Consumes, IsAtEnd}
use Rattle.certificate_file.specs.declared.cert_fault.CertFault.{CertFault}
use Rattle.certificate_file.specs.declared.cert_fault.CertFault.TheVariants as fault
use Rattle.check_pit.specs.declared.pit_fault.PitFault.{PitFault}
use Rattle.check_pit.specs.declared.stream_fault.StreamFault.{StreamFault}
use Rattle.check_pit.specs.declared.stream_fault.StreamFault.TheVariants.{Device, InputTooLong, Cert, Pit}
use Rattle.fixed_worth.specs.declared.limits.TheConstants.{MOST_BYTES}
use Rattle.check_pit.specs.StreamView.{LineView}
use Rattle.check_pit.specs.StreamLines.{ReadsSome, IsLine}
use Rattle.certificate_file.specs.Pieces.{Piece, pieces_of, piece_at}

-- the first bytes of what is held, as a line that its line feed ends
abbrev pub held_piece : ℕ → List ℕ → Piece
held_piece count held = record { text = take count held; ended = true }

-- these bytes were read, and then a line of so many bytes was passed
pub record PassesLine {R : Type 0} (remaining : R → Option (List ℕ)) (before later : LineView R) (bytes : List ℕ)
    (count : ℕ) : Type 0 where
  pub given : Consumes (remaining before.from) (remaining later.from) bytes
  pub line : IsLine (before.held ++ bytes) count
  pub held : later.held ≡ drop (count + 1) (before.held ++ bytes)
  pub taken : later.taken ≡ before.taken + length bytes
  pub number : later.number ≡ before.number + 1

-- whatever may be given for a text is what f makes of it
abbrev pub AlwaysGives : {A : Type 0} → (List ℕ → A → Type 0) → (List ℕ → A) → Type 0
AlwaysGives {A = A} gives f = (text : List ℕ) (x : A) → gives text x → x ≡ f text

-- a line was passed, of which f makes x
abbrev pub TakesLine : {R A : Type 0} → (R → Option (List ℕ)) → (ℕ → Piece → Result A CertFault) → LineView R
    → LineView R → A → Type 0
TakesLine remaining f before later x = (bytes : List ℕ) × (count : ℕ) × PassesLine remaining before later bytes count
    × (f (before.number + 1) (held_piece count (before.held ++ bytes)) ≡ Ok x)

-- What a fault of a stream says of its text, whose further bytes are not known: more bytes were read than a stream may
-- give; or the text ends here, and is cut off; or it has this fault, whatever follows.
abbrev pub FaultIs : Option (List ℕ) → ℕ → (List ℕ → CertFault → Type 0) → (PitFault → Type 0) → StreamFault → Type 0
FaultIs left taken has refused Device = Unit {0}
FaultIs left taken has refused InputTooLong = MOST_BYTES < taken
FaultIs left taken has refused (Cert fault.Truncated) = IsAtEnd left × (taken ≤ MOST_BYTES) × has [] fault.Truncated
FaultIs left taken has refused (Cert e) = (future : List ℕ) → has future e
FaultIs left taken has refused (Pit e) = refused e

-- no fault of a pit
abbrev pub NoPitFault : PitFault → Type 0
NoPitFault e = ⊥

-- why no further line is taken: what is held begins with no line, or with one that is faulty by f
abbrev pub NoNextLine : {R A : Type 0} → Option (List ℕ) → (ℕ → Piece → Result A CertFault) → LineView R → StreamFault
    → Type 0
NoNextLine left f s e = FaultIs left s.taken
    (λ future x. f (s.number + 1) (piece_at (pieces_of (s.held ++ future)) 0) ≡ Err x) NoPitFault e

-- a line of this length was passed, and nothing read
pub record LinePassed {R : Type 0} (count : ℕ) (before later : LineView R) : Type 0 where
  pub from : later.from ≡ before.from
  pub held : later.held ≡ drop (count + 1) before.held
  pub taken : later.taken ≡ before.taken
  pub number : later.number ≡ before.number + 1

-- no line was passed, and none can be taken
abbrev pub LacksLine : {R A : Type 0} → (R → Option (List ℕ)) → (ℕ → Piece → Result A CertFault) → LineView R
    → LineView R → StreamFault → Type 0
LacksLine remaining f before later e = ReadsSome remaining before later × NoNextLine (remaining later.from) f later e
