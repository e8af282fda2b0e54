-- Lines in order: their PIT lines name ascending blocks, all below n.
use Rattle.fixed_worth.proofs.Common.{◌≡◌, ℕ, get_or, ◌+◌, ◌<◌, Bool, true, false, cond, List, [], ◌∷◌, length, Option}
use Rattle.fixed_worth.proofs.Common.{Some, None, Result, Ok, Err, refl, ap, ◌∙◌, subst, arith, All, common_steps}
use Rattle.closure_net.specs.Network.{IsAscending}
use Rattle.certificate_file.specs.declared.cert_fault.CertFault.{CertFault}
use Rattle.certificate_file.specs.declared.cert_fault.CertFault.TheVariants as fault
use Rattle.certificate_file.specs.declared.body_lines.LineKind.{LineKind}
use Rattle.certificate_file.specs.declared.body_lines.LineKind.TheVariants.{Pit}
use Rattle.certificate_file.specs.declared.body_lines.BodyLine.{BodyLine}
use Rattle.certificate_file.specs.Prelude.{Piece, read_line, ◌>>=◌, line_of, is_end, is_of_model, is_above, may_follow}
use Rattle.certificate_file.specs.Prelude.{line_after, next_line, in_order, in_model, cert_end_fault, fault_from}
use Rattle.certificate_file.specs.Prelude.{body_fault, lines_of_pieces, lines_from, pit_of, block_if_pit}
use Rattle.certificate_file.proofs.Going.{Sound, text_read, sound}

-- Lines that stand in order, of each of which P holds.
abbrev pub InOrder : (BodyLine → Type 0) → Option BodyLine → List BodyLine → Type 0
InOrder P previous [] = Unit {0}
InOrder P previous (l ∷ ls) = (may_follow previous l ≡ true) × P l × InOrder P (Some l) ls

pub in_order_weaker : (P Q : BodyLine → Type 0) → ((l : BodyLine) → P l → Q l)
    → (previous : Option BodyLine) (ls : List BodyLine) → InOrder P previous ls → InOrder Q previous ls
in_order_weaker P Q f previous [] h = tt
in_order_weaker P Q f previous (l ∷ ls) h = (h.0, f l h.1, in_order_weaker P Q f (Some l) ls h.2)

-- A line that is read, not the last one, and of the model.
pub record Good (counts : Bool) (n : ℕ) (has : ℕ → ℕ → Bool) (l : BodyLine) : Type 0 where
  pub sound : Sound counts n l
  pub last : is_end l.kind ≡ false
  pub of_model : is_of_model has l.kind l ≡ true

bind_ok : {A B : Type 0} (r : Result A CertFault) (f : A → Result B CertFault) (x : B) → (r >>= f) ≡ Ok x → (a : A)
    × (r ≡ Ok a) × (f a ≡ Ok x)
bind_ok r f x h = grind (arith, common_steps)

order_ok : (previous : Option BodyLine) (k : ℕ) (r line : BodyLine) (t : Bool) → may_follow previous r ≡ t
    → cond t (Ok r) (Err (fault.OutOfOrder k)) ≡ Ok line → (may_follow previous line ≡ true) × (r ≡ line)
order_ok previous k r line t e h = grind (arith, common_steps)

model_ok : (has : ℕ → ℕ → Bool) (k : ℕ) (r line : BodyLine) (t : Bool) → is_of_model has r.kind r ≡ t
    → cond t (Ok r) (Err (fault.UnknownPair k)) ≡ Ok line → (is_of_model has line.kind line ≡ true) × (r ≡ line)
model_ok has k r line t e h = grind (arith, common_steps)

-- A line that is next is read, may follow, and is of the model.
pub record Met (counts : Bool) (n : ℕ) (has : ℕ → ℕ → Bool) (previous : Option BodyLine) (k : ℕ) (p : Piece)
    (line : BodyLine) : Type 0 where
  pub read : read_line (line_of counts n) k p ≡ Ok line
  pub follows : may_follow previous line ≡ true
  pub of_model : is_of_model has line.kind line ≡ true

pub met : (counts : Bool) (n : ℕ) (has : ℕ → ℕ → Bool) (previous : Option BodyLine) (k : ℕ) (p : Piece)
    (line : BodyLine) → next_line counts n has previous k p ≡ Ok line → Met counts n has previous k p line
met counts n has previous k p line h =
    let q = bind_ok (line_after counts n previous k p) (in_model has k) line h in
    let m = model_ok has k q.0 line (is_of_model has q.0.kind q.0) refl q.2 in
    let r = bind_ok (read_line (line_of counts n) k p) (in_order previous k) q.0 q.1 in
    let o = order_ok previous k r.0 q.0 (may_follow previous r.0) refl r.2 in
    let same : r.0 ≡ line = o.1 ∙ m.1 in
    record {
      read = r.1 ∙ ap (λ (x : BodyLine). Ok x) same;
      follows = subst (λ (x : BodyLine). may_follow previous x ≡ true) m.1 o.0;
      of_model = m.0;
    }

-- The lines of a text without a fault stand in order.
go_on : (counts : Bool) (n : ℕ) (has : ℕ → ℕ → Bool) (previous : Option BodyLine) (k : ℕ) (p : Piece)
    (ps : List Piece) (line : BodyLine) (t : Bool) → is_end line.kind ≡ t → line_of counts n p.text ≡ Ok line
    → may_follow previous line ≡ true → is_of_model has line.kind line ≡ true
    → cond t (cert_end_fault (k + 1) ps) (body_fault counts n has (Some line) (k + 1) ps) ≡ None
    → (body_fault counts n has (Some line) (k + 1) ps ≡ None
    → InOrder (Good counts n has) (Some line) (lines_of_pieces counts n ps))
    → InOrder (Good counts n has) previous (cond t [] (line ∷ lines_of_pieces counts n ps))
go_on counts n has previous k p ps line t e f m o h ih = grind (arith, common_steps, sound)

read_on : (counts : Bool) (n : ℕ) (has : ℕ → ℕ → Bool) (previous : Option BodyLine) (k : ℕ) (p : Piece)
    (ps : List Piece) (r : Result BodyLine CertFault) → next_line counts n has previous (k + 1) p ≡ r
    → fault_from (cert_end_fault (k + 1) ps) (λ line. body_fault counts n has (Some line) (k + 1) ps) r ≡ None
    → ((line : BodyLine) → body_fault counts n has (Some line) (k + 1) ps ≡ None
    → InOrder (Good counts n has) (Some line) (lines_of_pieces counts n ps))
    → InOrder (Good counts n has) previous (lines_from (lines_of_pieces counts n ps) (line_of counts n p.text))
read_on counts n has previous k p ps (Err e) f h ih = absurd cc
read_on counts n has previous k p ps (Ok line) f h ih = grind (arith, common_steps, met, text_read, go_on)

pub stands_in_order : (counts : Bool) (n : ℕ) (has : ℕ → ℕ → Bool) (previous : Option BodyLine) (k : ℕ)
    (ps : List Piece) → body_fault counts n has previous k ps ≡ None
    → InOrder (Good counts n has) previous (lines_of_pieces counts n ps)
stands_in_order counts n has previous k [] h = absurd cc
stands_in_order counts n has previous k (p ∷ ps) h =
    read_on counts n has previous k p ps (next_line counts n has previous (k + 1) p) refl h
    (λ line g. stands_in_order counts n has (Some line) (k + 1) ps g)

later : (counts : Bool) (n : ℕ) (l m : BodyLine) (bs : List ℕ) (k : LineKind) → m.kind ≡ k → Sound counts n l
    → Sound counts n m → is_above l m ≡ true → ((i : ℕ) → i < length bs → (m.kind ≡ Pit) × (m.block < get_or bs i 0))
    → (i : ℕ) → i < length (block_if_pit k m.block bs) → (l.kind ≡ Pit)
    × (l.block < get_or (block_if_pit k m.block bs) i 0)
later counts n l m bs k e s t a ih i h = grind (arith, common_steps)

pub later_pits : (counts : Bool) (n : ℕ) (has : ℕ → ℕ → Bool) (l : BodyLine) (ls : List BodyLine) → Sound counts n l
    → InOrder (Good counts n has) (Some l) ls → (i : ℕ) → i < length (pit_of ls) → (l.kind ≡ Pit)
    × (l.block < get_or (pit_of ls) i 0)
later_pits counts n has l [] s o i h = absurd (omega arith)
later_pits counts n has l (m ∷ ms) s o i h = later counts n l m (pit_of ms) m.kind refl s o.1.sound o.0
    (later_pits counts n has m ms o.1.sound o.2) i h

rising : (b : ℕ) (bs : List ℕ) → ((i : ℕ) → i < length bs → b < get_or bs i 0) → IsAscending bs → IsAscending (b ∷ bs)
rising b bs f h k g i j = grind (arith, common_steps)

with_pit : (counts : Bool) (n : ℕ) (m : BodyLine) (bs : List ℕ) (k : LineKind) → m.kind ≡ k
    → ((i : ℕ) → i < length bs → (m.kind ≡ Pit) × (m.block < get_or bs i 0)) → IsAscending bs
    → IsAscending (block_if_pit k m.block bs)
with_pit counts n m bs k e f h = grind (arith, common_steps)

pub ascending : (counts : Bool) (n : ℕ) (has : ℕ → ℕ → Bool) (previous : Option BodyLine) (ls : List BodyLine)
    → InOrder (Good counts n has) previous ls → IsAscending (pit_of ls)
ascending counts n has previous [] o = λ i j g h. absurd (omega arith)
ascending counts n has previous (l ∷ ls) o = with_pit counts n l (pit_of ls) l.kind refl
    (later_pits counts n has l ls o.1.sound o.2) (ascending counts n has (Some l) ls o.2)

known_pit : (n b : ℕ) (bs : List ℕ) (k : LineKind) → b < n → All (λ x. x < n) bs
    → All (λ x. x < n) (block_if_pit k b bs)
known_pit n b bs k f h = grind (arith, common_steps)

pub known : (counts : Bool) (n : ℕ) (has : ℕ → ℕ → Bool) (previous : Option BodyLine) (ls : List BodyLine)
    → InOrder (Good counts n has) previous ls → All (λ x. x < n) (pit_of ls)
known counts n has previous [] o = λ k d h. absurd (omega arith)
known counts n has previous (l ∷ ls) o = known_pit n l.block (pit_of ls) l.kind (o.1.sound.block o.1.last)
    (known counts n has (Some l) ls o.2)
