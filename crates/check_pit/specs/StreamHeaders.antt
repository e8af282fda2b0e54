-- The header of a stream.
use Rattle.std.specs.Prelude.{◌≡◌, ℕ, ◌+◌, List, ◌++◌, length, drop, Option, Ok, Err}
use Rattle.std.specs.Io.KnownBytes.{Consumes}
use Rattle.certificate_file.specs.declared.header.Header.{Header}
use Rattle.check_pit.specs.declared.stream_fault.StreamFault.{StreamFault}
use Rattle.check_pit.specs.StreamView.{LineView}
use Rattle.check_pit.specs.TakenLines.{FaultIs, NoPitFault}
use Rattle.certificate_file.specs.Prelude.{pieces_of, header_of}

-- These bytes were read, and the four lines of the header passed. It is the header of the text, whatever follows, whose
-- other lines are those of what is held.
pub record ReadsHeader {R : Type 0} (remaining : R → Option (List ℕ)) (before later : LineView R) (h : Header)
    (bytes : List ℕ) : Type 0 where
  pub given : Consumes (remaining before.from) (remaining later.from) bytes
  pub taken : later.taken ≡ before.taken + length bytes
  pub number : later.number ≡ 4
  pub header : (future : List ℕ) → header_of (pieces_of ((before.held ++ bytes) ++ future)) ≡ Ok h
  pub body : (future : List ℕ) → drop 4 (pieces_of ((before.held ++ bytes) ++ future)) ≡ pieces_of
      (later.held ++ future)

-- some bytes were
abbrev pub GivesHeader : {R : Type 0} → (R → Option (List ℕ)) → LineView R → LineView R → Header → Type 0
GivesHeader remaining before later h = (bytes : List ℕ) × ReadsHeader remaining before later h bytes

-- these bytes were read, and for this reason there is no header
pub record ReadsNoHeader {R : Type 0} (remaining : R → Option (List ℕ)) (before later : LineView R) (e : StreamFault)
    (bytes : List ℕ) : Type 0 where
  pub given : Consumes (remaining before.from) (remaining later.from) bytes
  pub taken : later.taken ≡ before.taken + length bytes
  pub fault : FaultIs (remaining later.from) later.taken
      (λ future x. header_of (pieces_of ((before.held ++ bytes) ++ future)) ≡ Err x) NoPitFault e

-- some bytes were
abbrev pub LacksHeader : {R : Type 0} → (R → Option (List ℕ)) → LineView R → LineView R → StreamFault → Type 0
LacksHeader remaining before later e = (bytes : List ℕ) × ReadsNoHeader remaining before later e bytes
