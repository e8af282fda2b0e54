-- Reading the body of a stream, line after line.
use Rattle.fixed_worth.proofs.Common.{◌≡◌, ℕ, ◌+◌, ◌≤◌, Bool, true, false, List, [], ◌∷◌, ◌++◌, length, drop, Option}
use Rattle.fixed_worth.proofs.Common.{Some, None, Result, sym, arith, append_assoc, IsAtEnd, Consumes-nil, common_steps}
use Rattle.closure_net.specs.Network.{NetView}
use Rattle.certificate_file.specs.declared.cert_fault.CertFault.{CertFault}
use Rattle.check_pit.specs.declared.stream_fault.StreamFault.{StreamFault}
use Rattle.fixed_worth.specs.declared.limits.TheConstants.{MOST_BYTES}
use Rattle.certificate_file.specs.declared.body_lines.BodyLine.{BodyLine}
use Rattle.certificate_file.specs.Prelude.{Piece, pieces_of, is_end, next_line, lines_of_pieces}
use Rattle.prec_file.specs.Rests.{has_pair}
use Rattle.check_pit.specs.Prelude.{LineView, ReadsBytes, held_piece, PassesLine, TakesLine, LacksLine, ReadsOn}
use Rattle.check_pit.specs.Prelude.{lines_of_body, LinesBegin, IsWholeBody, BodyFails}
use Rattle.certificate_file.proofs.Order.{Met, met}
use Rattle.check_pit.proofs.Beginnings.{BeginsWith, begins, reads_on, takes_line, Ends, takes_end, ends_whole}

-- Bytes that were read one after another.
pub reads_nothing : {R : Type 0} (remaining : R → Option (List ℕ)) (s : LineView R) → ReadsOn remaining s s []
reads_nothing remaining s = record { given = Consumes-nil (remaining s.from); taken = omega arith }

pub reads_both : {R : Type 0} (remaining : R → Option (List ℕ)) (a b c : LineView R) (xs ys : List ℕ)
    → ReadsOn remaining a b xs → ReadsOn remaining b c ys → ReadsOn remaining a c (xs ++ ys)
reads_both remaining a b c xs ys p q = grind (arith, common_steps)

on_of_line : {R : Type 0} (remaining : R → Option (List ℕ)) (a b : LineView R) (xs : List ℕ) (count : ℕ)
    → PassesLine remaining a b xs count → ReadsOn remaining a b xs
on_of_line remaining a b xs count r = record { given = r.given; taken = r.taken }

moved : (counts : Bool) (n : ℕ) (pairs : List (ℕ × ℕ)) (b c h i : List ℕ) (j k : ℕ) (previous : Option BodyLine)
    (ls : List BodyLine) → b ≡ c → h ≡ i → j ≡ k → BeginsWith counts n pairs b h j previous ls
    → BeginsWith counts n pairs c i k previous ls
moved counts n pairs b c h i j k previous ls d e f x = grind (arith, common_steps)

ends_moved : (counts : Bool) (n : ℕ) (pairs : List (ℕ × ℕ)) (b c h i : List ℕ) (j k : ℕ) (ls : List BodyLine) → b ≡ c
    → h ≡ i → j ≡ k → Ends counts n pairs b j h ls → Ends counts n pairs c k i ls
ends_moved counts n pairs b c h i j k ls d e f x = grind (arith, common_steps)

-- What was read of the body so far.
pub record Reading {R : Type 0} (remaining : R → Option (List ℕ)) (counts : Bool) (net : NetView)
    (start now : LineView R) (previous : Option BodyLine) (bytes : List ℕ) (ls : List BodyLine) : Type 0 where
  pub read : ReadsOn remaining start now bytes
  pub begins : BeginsWith counts (length net.worths) net.pairs (start.held ++ bytes) now.held now.number previous ls

pub reading_begins : {R : Type 0} (remaining : R → Option (List ℕ)) (counts : Bool) (net : NetView)
    (start : LineView R) → start.number ≡ 4 → Reading remaining counts net start start None [] []
reading_begins remaining counts net start e = grind (arith, common_steps)

reading_stops : {R : Type 0} (remaining : R → Option (List ℕ)) (counts : Bool) (net : NetView)
    (start now later : LineView R) (previous : Option BodyLine) (bytes more : List ℕ) (ls : List BodyLine)
    → Reading remaining counts net start now previous bytes ls → ReadsBytes remaining now later more
    → Reading remaining counts net start later previous (bytes ++ more) ls
reading_stops remaining counts net start now later previous bytes more ls r m = grind (arith, common_steps)

-- What a line is that is next.
abbrev pub next_of : Bool → NetView → Option BodyLine → ℕ → Piece → Result BodyLine CertFault
next_of counts net previous k p = next_line counts (length net.worths) (has_pair net.pairs) previous k p

abbrev pub MetNext : Bool → NetView → Option BodyLine → BodyLine → Type 0
MetNext counts net previous line = (k : ℕ) × (p : Piece)
    × Met counts (length net.worths) (has_pair net.pairs) previous k p line

pub line_met : {R : Type 0} (remaining : R → Option (List ℕ)) (counts : Bool) (net : NetView) (now later : LineView R)
    (previous : Option BodyLine) (line : BodyLine) → TakesLine remaining (next_of counts net previous) now later line
    → MetNext counts net previous line
line_met remaining counts net now later previous line t = (
  now.number + 1,
  held_piece t.1 (now.held ++ t.0),
  met counts (length net.worths) (has_pair net.pairs) previous
      (now.number + 1) (held_piece t.1 (now.held ++ t.0)) line t.3,
)

pub reading_on : {R : Type 0} (remaining : R → Option (List ℕ)) (counts : Bool) (net : NetView)
    (start now later : LineView R) (previous : Option BodyLine) (bytes : List ℕ) (ls : List BodyLine)
    (line : BodyLine) → Reading remaining counts net start now previous bytes ls
    → (t : TakesLine remaining (next_of counts net previous) now later line) → is_end line.kind ≡ false
    → Reading remaining counts net start later (Some line) (bytes ++ t.0) (ls ++ line ∷ [])
reading_on remaining counts net start now later previous bytes ls line r t e =
    let n = length net.worths in
    let more = t.0 in
    let m = t.2 in
    record {
      read = reads_both remaining start now later bytes more r.read (on_of_line remaining now later more t.1 m);
      begins = moved counts n net.pairs ((start.held ++ bytes) ++ more) (start.held ++ (bytes ++ more))
          (drop (t.1 + 1) (now.held ++ more)) later.held (now.number + 1) later.number (Some line) (ls ++ line ∷ [])
          (append_assoc start.held bytes more) (sym m.held) (sym m.number)
          (takes_line counts n net.pairs ((start.held ++ bytes) ++ more) (now.held ++ more) now.number t.1 previous ls
          line (reads_on counts n net.pairs (start.held ++ bytes) now.held now.number previous ls more r.begins)
          m.line t.3 e);
    }

-- END was read.
pub record Ended {R : Type 0} (remaining : R → Option (List ℕ)) (counts : Bool) (net : NetView)
    (start now : LineView R) (bytes : List ℕ) (ls : List BodyLine) : Type 0 where
  pub read : ReadsOn remaining start now bytes
  pub ends : Ends counts (length net.worths) net.pairs (start.held ++ bytes) now.number now.held ls

pub reading_ends : {R : Type 0} (remaining : R → Option (List ℕ)) (counts : Bool) (net : NetView)
    (start now later : LineView R) (previous : Option BodyLine) (bytes : List ℕ) (ls : List BodyLine)
    (line : BodyLine) → Reading remaining counts net start now previous bytes ls
    → (t : TakesLine remaining (next_of counts net previous) now later line) → is_end line.kind ≡ true
    → Ended remaining counts net start later (bytes ++ t.0) ls
reading_ends remaining counts net start now later previous bytes ls line r t e =
    let n = length net.worths in
    let more = t.0 in
    let m = t.2 in
    record {
      read = reads_both remaining start now later bytes more r.read (on_of_line remaining now later more t.1 m);
      ends = ends_moved counts n net.pairs ((start.held ++ bytes) ++ more) (start.held ++ (bytes ++ more))
          (drop (t.1 + 1) (now.held ++ more)) later.held (now.number + 1) later.number ls
          (append_assoc start.held bytes more) (sym m.held) (sym m.number)
          (takes_end counts n net.pairs ((start.held ++ bytes) ++ more) (now.held ++ more) now.number t.1 previous ls
          line (reads_on counts n net.pairs (start.held ++ bytes) now.held now.number previous ls more r.begins)
          m.line t.3 e);
    }

pub ended_stops : {R : Type 0} (remaining : R → Option (List ℕ)) (counts : Bool) (net : NetView)
    (start now later : LineView R) (bytes more : List ℕ) (ls : List BodyLine)
    → Ended remaining counts net start now bytes ls → ReadsBytes remaining now later more
    → Ended remaining counts net start later (bytes ++ more) ls
ended_stops remaining counts net start now later bytes more ls r m = grind (arith, common_steps)

-- Why a body fails, of which some bytes were read.
abbrev pub Fails : {R : Type 0} → (R → Option (List ℕ)) → Bool → NetView → LineView R → LineView R → StreamFault
    → Type 0
Fails remaining counts net start later e = (bytes : List ℕ) × ReadsOn remaining start later bytes
    × BodyFails (remaining later.from) later.taken counts net (start.held ++ bytes) e

-- There is no further line.
pub reading_lacks : {R : Type 0} (remaining : R → Option (List ℕ)) (counts : Bool) (net : NetView)
    (start now later : LineView R) (previous : Option BodyLine) (bytes : List ℕ) (ls : List BodyLine)
    (e : StreamFault) → Reading remaining counts net start now previous bytes ls
    → LacksLine remaining (next_of counts net previous) now later e → Fails remaining counts net start later e
reading_lacks remaining counts net start now later previous bytes ls e r l = grind
    (arith, common_steps, l.0.0, (reading_stops remaining counts net start now later previous bytes (l.0.0) ls r l.0.1))

pub lines_begin : {R : Type 0} (remaining : R → Option (List ℕ)) (counts : Bool) (net : NetView)
    (start now : LineView R) (previous : Option BodyLine) (bytes : List ℕ) (ls : List BodyLine)
    → Reading remaining counts net start now previous bytes ls → LinesBegin counts net (start.held ++ bytes) ls
lines_begin remaining counts net start now previous bytes ls r = λ future.
    (lines_of_pieces counts (length net.worths) (pieces_of (now.held ++ future)), r.begins.lines future)

-- Nothing stands after END.
pub ended_whole : {R : Type 0} (remaining : R → Option (List ℕ)) (counts : Bool) (net : NetView)
    (start now : LineView R) (bytes : List ℕ) (ls : List BodyLine) → Ended remaining counts net start now bytes ls
    → IsAtEnd (remaining now.from) → now.held ≡ [] → now.taken ≤ MOST_BYTES
    → IsWholeBody (remaining now.from) now.taken counts net (start.held ++ bytes)
    × (lines_of_body counts net (start.held ++ bytes) ≡ ls)
ended_whole remaining counts net start now bytes ls r e h t = grind (arith, common_steps, ends_whole)
