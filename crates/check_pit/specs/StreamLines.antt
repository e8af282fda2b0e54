-- What is read of a stream of lines.
use Rattle.std.specs.Prelude.{◌≡◌, ℕ, ◌+◌, ◌<◌, ◌≤◌, ◌==◌, Bool, true, false, List, [], ◌++◌, length, position, Option}
use Rattle.std.specs.Prelude.{Some}
use Rattle.std.specs.Io.KnownBytes.{Consumes, IsAtEnd}
use Rattle.fixed_worth.specs.declared.limits.TheConstants.{LINE_BYTES, MOST_BYTES}
use Rattle.certificate_file.specs.declared.cert_fault.CertFault.{CertFault}
use Rattle.certificate_file.specs.declared.cert_fault.CertFault.TheVariants as fault
use Rattle.check_pit.specs.declared.stream_fault.StreamFault.{StreamFault}
use Rattle.check_pit.specs.declared.stream_fault.StreamFault.TheVariants.{Device, InputTooLong, Cert, Pit}
use Rattle.check_pit.specs.StreamView.{LineView}
use Rattle.certificate_file.specs.Pieces.{pieces_of, piece_at, piece_fault}

-- these bytes were read and stand after what was held, and no line was passed
pub record ReadsBytes {R : Type 0} (remaining : R → Option (List ℕ)) (before later : LineView R) (bytes : List ℕ) :
    Type 0 where
  pub given : Consumes (remaining before.from) (remaining later.from) bytes
  pub held : later.held ≡ before.held ++ bytes
  pub taken : later.taken ≡ before.taken + length bytes
  pub number : later.number ≡ before.number

-- some bytes, perhaps none, were read and stand after what was held, and no line was passed
abbrev pub ReadsSome : {R : Type 0} → (R → Option (List ℕ)) → LineView R → LineView R → Type 0
ReadsSome remaining before later = (bytes : List ℕ) × ReadsBytes remaining before later bytes

-- what is held begins with a line of so many bytes, and its line feed
pub record IsLine (held : List ℕ) (count : ℕ) : Type 0 where
  pub ends : position (λ b. b == 10) held ≡ Some count
  pub short : count ≤ LINE_BYTES
  pub inside : count < length held

-- what is held, whatever follows it, begins with no line, for this reason
abbrev pub IsNoLine : ℕ → List ℕ → CertFault → Type 0
IsNoLine number held e = (future : List ℕ) → piece_fault (number + 1) (piece_at (pieces_of (held ++ future)) 0) ≡ Some e

-- why no further line is read: more bytes were read than a stream may give; or what is held is longer than a line; or
-- the text ends before a line does
abbrev pub NoLine : {R : Type 0} → Option (List ℕ) → LineView R → StreamFault → Type 0
NoLine left s Device = Unit {0}
NoLine left s InputTooLong = MOST_BYTES < s.taken
NoLine left s (Cert fault.Truncated) = IsAtEnd left × (s.taken ≤ MOST_BYTES)
    × (piece_fault (s.number + 1) (piece_at (pieces_of s.held) 0) ≡ Some fault.Truncated)
NoLine left s (Cert e) = IsNoLine s.number s.held e
NoLine left s (Pit e) = ⊥

-- one read more gave bytes, or the text ends
abbrev pub MoreOrEnd : {R : Type 0} → Option (List ℕ) → LineView R → LineView R → Bool → Type 0
MoreOrEnd left before later true = before.taken < later.taken
MoreOrEnd left before later false = IsAtEnd left × (later.held ≡ before.held) × (later.taken ≡ before.taken)

-- the text ends here, or it has a further byte
abbrev pub DoneOrNot : {R : Type 0} → Option (List ℕ) → LineView R → Bool → Type 0
DoneOrNot left s true = IsAtEnd left × (s.held ≡ []) × (s.taken ≤ MOST_BYTES)
DoneOrNot left s false = 0 < length s.held

-- why it isn't known whether the text ends here: a read failed, or more bytes were read than a stream may give
abbrev pub NotDone : {R : Type 0} → LineView R → StreamFault → Type 0
NotDone s Device = Unit {0}
NotDone s InputTooLong = MOST_BYTES < s.taken
NotDone s _ = ⊥
