-- Why a stream gives no further line.
use Rattle.fixed_worth.proofs.Common.{◌≡◌, ℕ, get_or, ◌+◌, ◌<◌, ◌≤◌, Bool, true, List, [], ◌++◌, length, take, Option}
use Rattle.fixed_worth.proofs.Common.{Some, None, Result, Ok, Err, refl, sym, ap, ◌∙◌, arith, cond, nat_lt, Contains}
use Rattle.fixed_worth.proofs.Common.{MatchOption, MatchResult, is_some, length-take-le, common_steps}
use Rattle.fixed_worth.specs.declared.limits.TheConstants.{LINE_BYTES}
use Rattle.certificate_file.specs.declared.cert_fault.CertFault.{CertFault}
use Rattle.certificate_file.specs.declared.cert_fault.CertFault.TheVariants as fault
use Rattle.certificate_file.specs.declared.cert_fault.LineFault.{LineFault}
use Rattle.certificate_file.specs.declared.cert_fault.LineFault.TheVariants.{Text}
use Rattle.certificate_file.specs.declared.body_lines.LineKind.TheVariants.{Rest}
use Rattle.certificate_file.specs.declared.body_lines.BodyLine.{BodyLine}
use Rattle.check_pit.specs.declared.pit_fault.PitFault.{PitFault}
use Rattle.check_pit.specs.declared.stream_fault.StreamFault.{StreamFault}
use Rattle.check_pit.specs.declared.stream_fault.StreamFault.TheVariants.{Cert}
use Rattle.certificate_file.specs.Prelude.{Piece, pieces_of, piece_at, piece_fault, in_line, unless_cert_fault}
use Rattle.certificate_file.specs.Prelude.{read_line, is_of_model, next_line}
use Rattle.prec_file.specs.Rests.{has_pair}
use Rattle.check_pit.specs.Prelude.{LineView, ReadsSome, IsLine, held_piece, PassesLine, LinePassed, TakesLine}
use Rattle.check_pit.specs.Prelude.{LacksLine, FaultIs, NoNextLine}
use Rattle.certificate_file.proofs.Additions.{absent, present}
use Rattle.check_pit.proofs.Beginnings.{no_line_next}
use Rattle.check_pit.proofs.HeldLines.{line_held}

-- Only a piece that is no line is cut off, and memory is refused to none.
abbrev IsOutside : CertFault → Type 0
IsOutside fault.Truncated = Unit {0}
IsOutside fault.NoMemory = Unit {0}
IsOutside _ = ⊥

in_line_whole : {A : Type 0} (e : CertFault) (k : ℕ) (r : Result A LineFault) → IsOutside e → in_line k r ≡ Err e → ⊥
in_line_whole e k r o h = grind (arith, common_steps)

unless_whole : {A : Type 0} (e : CertFault) (o : Option CertFault) (r : Result A CertFault) → (o ≡ Some e → ⊥)
    → (r ≡ Err e → ⊥) → unless_cert_fault o r ≡ Err e → ⊥
unless_whole e o r f g h = grind (arith, common_steps)

read_whole : {A : Type 0} (e : CertFault) (f : List ℕ → Result A LineFault) (k : ℕ) (p : Piece) → IsOutside e
    → (piece_fault k p ≡ Some e → ⊥) → read_line f k p ≡ Err e → ⊥
read_whole e f k p o g = unless_whole e (piece_fault k p) (in_line k (f p.text)) g (in_line_whole e k (f p.text) o)

next_whole : (e : CertFault) (counts : Bool) (n : ℕ) (has : ℕ → ℕ → Bool) (previous : Option BodyLine) (k : ℕ)
    (p : Piece) → IsOutside e → (piece_fault k p ≡ Some e → ⊥) → next_line counts n has previous k p ≡ Err e → ⊥
next_whole e counts n has previous k p o g = grind (arith, common_steps)

no_fault : (k : ℕ) (text : List ℕ) → length text ≤ LINE_BYTES → piece_fault k (record { text = text; ended = true })
    ≡ None
no_fault k text h = grind (arith, common_steps)

not_cut : (k : ℕ) (text : List ℕ) → length text ≤ LINE_BYTES → piece_fault k (record { text = text; ended = true })
    ≡ Some fault.Truncated → ⊥
not_cut k text h e = let z = sym (no_fault k text h) ∙ e in cc

-- What f makes of a piece: the fault of one that is no line, and of a line never that it is cut off.
pub record ReadsLines {A : Type 0} (f : ℕ → Piece → Result A CertFault) : Type 0 where
  pub none : (k : ℕ) (p : Piece) (e : CertFault) → piece_fault k p ≡ Some e → f k p ≡ Err e
  pub whole : (k : ℕ) (text : List ℕ) → length text ≤ LINE_BYTES
      → f k (record { text = text; ended = true }) ≡ Err fault.Truncated → ⊥

read_none : {A : Type 0} (f : List ℕ → Result A LineFault) (k : ℕ) (p : Piece) (e : CertFault)
    → piece_fault k p ≡ Some e → read_line f k p ≡ Err e
read_none f k p e h = rw h refl

pub next_reads : (counts : Bool) (n : ℕ) (has : ℕ → ℕ → Bool) (previous : Option BodyLine)
    → ReadsLines (next_line counts n has previous)
next_reads counts n has previous = record {
  none = no_line_next counts n has previous;
  whole = λ k text h. next_whole fault.Truncated counts n has previous
      k (record { text = text; ended = true }) tt (not_cut k text h);
}

-- A fault of the line that is held, whatever follows it.
stays : {R A : Type 0} (left : Option (List ℕ)) (f : ℕ → Piece → Result A CertFault) (s : LineView R) (e : CertFault)
    → (e ≡ fault.Truncated → ⊥)
    → ((future : List ℕ) → f (s.number + 1) (piece_at (pieces_of (s.held ++ future)) 0) ≡ Err e)
    → NoNextLine left f s (Cert e)
stays left f s e g h = grind (arith, common_steps)

pub line_wrong : {R A : Type 0} (left : Option (List ℕ)) (f : ℕ → Piece → Result A CertFault) (s : LineView R)
    (count : ℕ) (e : CertFault) → ReadsLines f → IsLine s.held count
    → f (s.number + 1) (held_piece count s.held) ≡ Err e → NoNextLine left f s (Cert e)
line_wrong left f s count e r h bad =
    let size : length (take count s.held) ≡ count = length-take-le count s.held
    (let i = h.inside in omega (arith, i)) in
    let short : length (take count s.held) ≤ LINE_BYTES = let i = h.short in omega (arith, size, i) in
    stays left f s e
    (λ cut. r.whole (s.number + 1) (take count s.held) short (bad ∙ ap (λ (x : CertFault). Err x) cut))
    (λ future. ap (λ (ps : List Piece). f (s.number + 1) (piece_at ps 0)) (line_held s.held count h.ends future) ∙ bad)

memory_at : (k : ℕ) (long ended : Bool) → cond long (Some (fault.Text k)) (cond ended None (Some fault.Truncated))
    ≡ Some fault.NoMemory → ⊥
memory_at k long ended h = grind (arith, common_steps)

-- That there is no further line is no want of memory.
pub lacks_no_memory : {R T : Type 0} (left : Option (List ℕ)) (counts : Bool) (n : ℕ) (has : ℕ → ℕ → Bool)
    (previous : Option BodyLine) (s : LineView R) (e : StreamFault)
    → NoNextLine left (next_line counts n has previous) s e
    → (let r : Result T StreamFault = Err e in r ≡ Err (Cert fault.NoMemory)) → ⊥
lacks_no_memory left counts n has previous s e h z = grind (
  arith,
  common_steps,
  (piece_at (pieces_of (s.held ++ [])) 0),
  (memory_at (s.number + 1) (nat_lt LINE_BYTES (length (piece_at (pieces_of (s.held ++ [])) 0).text))
      (piece_at (pieces_of (s.held ++ [])) 0).ended),
)

-- A fault of one thing, as one of another.
pub fault_as : (left : Option (List ℕ)) (taken : ℕ) (has had : List ℕ → CertFault → Type 0) (p q : PitFault → Type 0)
    (e : StreamFault) → ((future : List ℕ) (x : CertFault) → has future x → had future x)
    → ((x : PitFault) → p x → q x) → FaultIs left taken has p e → FaultIs left taken had q e
fault_as left taken has had p q e f g h = grind (arith, common_steps)

-- A line that was passed, or not.
pub passes : {R : Type 0} (remaining : R → Option (List ℕ)) (before mid later : LineView R) (count : ℕ)
    (m : ReadsSome remaining before mid) → IsLine mid.held count → LinePassed count mid later
    → PassesLine remaining before later m.0 count
passes {R = R} remaining before mid later count m h b = grind (arith, common_steps)

-- What a line gives, as the line of its text.
gives : {A : Type 0} (f : List ℕ → Result A LineFault) (held text : List ℕ) (count k : ℕ) → IsLine held count
    → text ≡ take count held → in_line k (f text) ≡ read_line f k (held_piece count held)
gives f held text count k h e = grind (arith, common_steps)

abbrev pub PassedWhere : {R A : Type 0} → LineView R → LineView R → ℕ → Result A StreamFault → Result A CertFault
    → Type 0
PassedWhere before later count result read = MatchResult read (λ x. (result ≡ Ok x) × LinePassed count before later)
    (λ e. (result ≡ Err (Cert e)) × (later ≡ before))

given_by : {R A : Type 0} (remaining : R → Option (List ℕ)) (f : List ℕ → Result A LineFault)
    (before mid later : LineView R) (count : ℕ) (result : Result A StreamFault) (read : Result A CertFault)
    (m : ReadsSome remaining before mid) → IsLine mid.held count
    → read_line f (mid.number + 1) (held_piece count mid.held) ≡ read → PassedWhere mid later count result read
    → MatchResult result (λ x. TakesLine remaining (read_line f) before later x)
    (λ e. LacksLine remaining (read_line f) before later e)
given_by {R = R} {A = A} remaining f before mid later count result read m h e p = grind
    (arith, common_steps, passes, line_wrong, read_none, read_whole, not_cut)

pub line_given : {R A : Type 0} (remaining : R → Option (List ℕ)) (f : List ℕ → Result A LineFault)
    (before mid later : LineView R) (count number : ℕ) (text : List ℕ) (result : Result A StreamFault)
    (read : Result A CertFault) → ReadsSome remaining before mid → IsLine mid.held count
    → number ≡ mid.number → text ≡ take count mid.held → read ≡ in_line (number + 1) (f text)
    → PassedWhere mid later count result read
    → MatchResult result (λ x. TakesLine remaining (read_line f) before later x)
    (λ e. LacksLine remaining (read_line f) before later e)
line_given remaining f before mid later count number text result read m h k t e p =
    given_by remaining f before mid later count result read m h
    (sym (e ∙ ap (λ (j : ℕ). in_line (j + 1) (f text)) k ∙ gives f mid.held text count (mid.number + 1) h t)) p

-- What holds of a result by every i of a kind, case by case.
pub each_case : {I A E : Type 0} (J : I → Type 0) (P : I → A → Type 0) (Q : I → E → Type 0) (r : Result A E)
    → ((i : I) → J i → MatchResult r (P i) (Q i))
    → MatchResult r (λ x. (i : I) → J i → P i x) (λ e. (i : I) → J i → Q i e)
each_case J P Q r h = grind (arith, common_steps)

-- Whether a pair was found among the model's.
pub found_or_not : (pairs : List (ℕ × ℕ)) (b p : ℕ) (o : Option ℕ)
    → MatchOption o (Contains pairs (b, p) → ⊥) (λ k. (k < length pairs) × (get_or pairs k (0, 0) ≡ (b, p)))
    → is_some o ≡ has_pair pairs b p
found_or_not pairs b p o h = grind (arith, common_steps, present, absent)

pub rest_of_model : (has : ℕ → ℕ → Bool) (line : BodyLine) (t : Bool) → line.kind ≡ Rest
    → t ≡ has line.block line.other → t ≡ is_of_model has line.kind line
rest_of_model has line t e h = rw e h
