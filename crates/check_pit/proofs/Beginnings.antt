-- Reading a stream's body line after line: what was read of it begins with the lines that were taken, whatever follows.
use Rattle.fixed_worth.proofs.Common.{◌≡◌, ℕ, ◌+◌, ◌<◌, Bool, true, false, cond, List, [], ◌∷◌, ◌++◌, length, take}
use Rattle.fixed_worth.proofs.Common.{drop, Option, Some, None, Ok, Err, refl, sym, ap, ◌∙◌, subst, arith, append-nil}
use Rattle.fixed_worth.proofs.Common.{append_assoc, common_steps}
use Rattle.certificate_file.specs.declared.cert_fault.CertFault.{CertFault}
use Rattle.certificate_file.specs.declared.cert_fault.CertFault.TheVariants as fault
use Rattle.certificate_file.specs.declared.body_lines.BodyLine.{BodyLine}
use Rattle.certificate_file.specs.Prelude.{Piece, pieces_of, piece_fault, line_of, is_end, may_follow, next_line}
use Rattle.certificate_file.specs.Prelude.{cert_end_fault, body_fault, lines_of_pieces}
use Rattle.prec_file.specs.Rests.{has_pair}
use Rattle.check_pit.specs.Prelude.{IsLine, held_piece}
use Rattle.certificate_file.proofs.Going.{text_read, sound}
use Rattle.check_pit.proofs.HeldLines.{line_held}
use Rattle.certificate_file.proofs.Order.{InOrder, Good, met}

-- The last of some lines, or else this one.
abbrev pub last_line : Option BodyLine → List BodyLine → Option BodyLine
last_line previous [] = previous
last_line previous (l ∷ ls) = last_line (Some l) ls

last_added : (previous : Option BodyLine) (ls : List BodyLine) (l : BodyLine)
    → last_line previous (ls ++ l ∷ []) ≡ Some l
last_added previous [] l = refl
last_added previous (m ∷ ms) l = last_added (Some m) ms l

order_added : (P : BodyLine → Type 0) (previous : Option BodyLine) (ls : List BodyLine) (l : BodyLine)
    → InOrder P previous ls → may_follow (last_line previous ls) l ≡ true → P l → InOrder P previous (ls ++ l ∷ [])
order_added P previous [] l o m p = (m, p, tt)
order_added P previous (k ∷ ks) l o m p = (o.0, o.1, order_added P (Some k) ks l o.2 m p)

-- Lines were taken of a body, in order and all of the model; and whatever follows, what is wrong with the body is wrong
-- with what is held, and its lines are these and then those of what is held.
pub record BeginsWith (counts : Bool) (n : ℕ) (pairs : List (ℕ × ℕ)) (body held : List ℕ) (number : ℕ)
    (previous : Option BodyLine) (ls : List BodyLine) : Type 0 where
  pub same_fault : (future : List ℕ) → body_fault counts n (has_pair pairs) None 4 (pieces_of (body ++ future))
      ≡ body_fault counts n (has_pair pairs) previous number (pieces_of (held ++ future))
  pub lines : (future : List ℕ) → lines_of_pieces counts n (pieces_of (body ++ future)) ≡ ls ++ lines_of_pieces counts
      n (pieces_of (held ++ future))
  pub order : InOrder (Good counts n (has_pair pairs)) None ls
  pub last : previous ≡ last_line None ls

-- At first no line was taken.
pub begins : (counts : Bool) (n : ℕ) (pairs : List (ℕ × ℕ)) (body : List ℕ)
    → BeginsWith counts n pairs body body 4 None []
begins counts n pairs body = record { same_fault = λ future. refl; lines = λ future. refl; order = tt; last = refl }

-- More bytes are held.
pub reads_on : (counts : Bool) (n : ℕ) (pairs : List (ℕ × ℕ)) (body held : List ℕ) (number : ℕ)
    (previous : Option BodyLine) (ls : List BodyLine) (bytes : List ℕ)
    → BeginsWith counts n pairs body held number previous ls
    → BeginsWith counts n pairs (body ++ bytes) (held ++ bytes) number previous ls
reads_on counts n pairs body held number previous ls bytes b = grind (arith, common_steps)

-- What a line that is taken says of the text, whatever follows.
fault_after_line : (counts : Bool) (n : ℕ) (has : ℕ → ℕ → Bool) (held : List ℕ) (number j : ℕ)
    (previous : Option BodyLine) (line : BodyLine) → IsLine held j
    → next_line counts n has previous (number + 1) (held_piece j held) ≡ Ok line → (future : List ℕ)
    → body_fault counts n has previous number (pieces_of (held ++ future)) ≡ cond (is_end line.kind)
    (cert_end_fault (number + 1) (pieces_of (drop (j + 1) held ++ future)))
    (body_fault counts n has (Some line) (number + 1) (pieces_of (drop (j + 1) held ++ future)))
fault_after_line counts n has held number j previous line h ok future = grind (arith, common_steps, line_held)

lines_after_line : (counts : Bool) (n : ℕ) (held : List ℕ) (j : ℕ) (line : BodyLine) → IsLine held j
    → line_of counts n (take j held) ≡ Ok line → (future : List ℕ)
    → lines_of_pieces counts n (pieces_of (held ++ future)) ≡ cond (is_end line.kind) []
    (line ∷ lines_of_pieces counts n (pieces_of (drop (j + 1) held ++ future)))
lines_after_line counts n held j line h ok future = grind (arith, common_steps, line_held)

-- One line on.
pub takes_line : (counts : Bool) (n : ℕ) (pairs : List (ℕ × ℕ)) (body held : List ℕ) (number j : ℕ)
    (previous : Option BodyLine) (ls : List BodyLine) (line : BodyLine)
    → BeginsWith counts n pairs body held number previous ls → IsLine held j
    → next_line counts n (has_pair pairs) previous (number + 1) (held_piece j held) ≡ Ok line
    → is_end line.kind ≡ false → BeginsWith counts n pairs body (drop (j + 1) held) (number + 1) (Some line)
    (ls ++ line ∷ [])
takes_line counts n pairs body held number j previous ls line b h ok e =
    let has : ℕ → ℕ → Bool = has_pair pairs in
    let m = met counts n has previous (number + 1) (held_piece j held) line ok in
    let text = text_read (line_of counts n) (number + 1) (held_piece j held) line m.read in
    record {
      same_fault = λ future. b.same_fault future ∙ fault_after_line counts n has held number j previous line h ok future
          ∙ ap (λ (t : Bool). cond t (cert_end_fault (number + 1) (pieces_of (drop (j + 1) held ++ future)))
          (body_fault counts n has (Some line) (number + 1) (pieces_of (drop (j + 1) held ++ future)))) e;
      lines = λ future. b.lines future
          ∙ ap (λ (ms : List BodyLine). ls ++ ms) (lines_after_line counts n held j line h text future
          ∙ ap (λ (t : Bool). cond t []
          (line ∷ lines_of_pieces counts n (pieces_of (drop (j + 1) held ++ future)))) e)
          ∙ sym (append_assoc ls (line ∷ []) (lines_of_pieces counts n (pieces_of (drop (j + 1) held ++ future))));
      order = order_added (Good counts n has) None ls line b.order
          (subst (λ (p : Option BodyLine). may_follow p line ≡ true) b.last m.follows)
          (record { sound = sound counts n (take j held) line text; last = e; of_model = m.of_model });
      last = sym (last_added None ls line);
    }

-- The last line.
pub record Ends (counts : Bool) (n : ℕ) (pairs : List (ℕ × ℕ)) (body : List ℕ) (number : ℕ) (left : List ℕ)
    (ls : List BodyLine) : Type 0 where
  pub fault : (future : List ℕ) → body_fault counts n (has_pair pairs) None 4 (pieces_of (body ++ future))
      ≡ cert_end_fault number (pieces_of (left ++ future))
  pub lines : (future : List ℕ) → lines_of_pieces counts n (pieces_of (body ++ future)) ≡ ls

pub takes_end : (counts : Bool) (n : ℕ) (pairs : List (ℕ × ℕ)) (body held : List ℕ) (number j : ℕ)
    (previous : Option BodyLine) (ls : List BodyLine) (line : BodyLine)
    → BeginsWith counts n pairs body held number previous ls → IsLine held j
    → next_line counts n (has_pair pairs) previous (number + 1) (held_piece j held) ≡ Ok line
    → is_end line.kind ≡ true → Ends counts n pairs body (number + 1) (drop (j + 1) held) ls
takes_end counts n pairs body held number j previous ls line b h ok e =
    let has : ℕ → ℕ → Bool = has_pair pairs in
    let m = met counts n has previous (number + 1) (held_piece j held) line ok in
    let text = text_read (line_of counts n) (number + 1) (held_piece j held) line m.read in
    record {
      fault = λ future. b.same_fault future ∙ fault_after_line counts n has held number j previous line h ok future
          ∙ ap (λ (t : Bool). cond t (cert_end_fault (number + 1) (pieces_of (drop (j + 1) held ++ future)))
          (body_fault counts n has (Some line) (number + 1) (pieces_of (drop (j + 1) held ++ future)))) e;
      lines = λ future. b.lines future
          ∙ ap (λ (ms : List BodyLine). ls ++ ms) (lines_after_line counts n held j line h text future
          ∙ ap (λ (t : Bool). cond t []
          (line ∷ lines_of_pieces counts n (pieces_of (drop (j + 1) held ++ future)))) e)
          ∙ append-nil ls;
    }

-- Nothing is left after the last line.
pub ends_whole : (counts : Bool) (n : ℕ) (pairs : List (ℕ × ℕ)) (body left : List ℕ) (number : ℕ) (ls : List BodyLine)
    → Ends counts n pairs body number left ls → left ≡ []
    → (body_fault counts n (has_pair pairs) None 4 (pieces_of body) ≡ None)
    × (lines_of_pieces counts n (pieces_of body) ≡ ls)
ends_whole counts n pairs body left number ls e none = grind (arith, common_steps, (append-nil body))

more_pieces : (left future : List ℕ) (number : ℕ) → 0 < length left
    → cert_end_fault number (pieces_of (left ++ future)) ≡ Some (fault.Text (number + 1))
more_pieces [] future number h = absurd (omega arith)
more_pieces (b ∷ bs) future number h = grind (arith, common_steps)

-- Something is.
pub ends_more : (counts : Bool) (n : ℕ) (pairs : List (ℕ × ℕ)) (body left : List ℕ) (number : ℕ) (ls : List BodyLine)
    → Ends counts n pairs body number left ls → 0 < length left → (future : List ℕ)
    → body_fault counts n (has_pair pairs) None 4 (pieces_of (body ++ future)) ≡ Some (fault.Text (number + 1))
ends_more counts n pairs body left number ls e h future = e.fault future ∙ more_pieces left future number h

-- A piece that is no line says nothing; and of one that is, the text goes on after it.
pub no_line_next : (counts : Bool) (n : ℕ) (has : ℕ → ℕ → Bool) (previous : Option BodyLine) (k : ℕ) (p : Piece)
    (e : CertFault) → piece_fault k p ≡ Some e → next_line counts n has previous k p ≡ Err e
no_line_next counts n has previous k p e h = rw h refl
