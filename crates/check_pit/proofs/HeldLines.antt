-- What is held of a text, and the pieces of the whole text, whatever follows.
use Rattle.fixed_worth.proofs.Common.{◌≡◌, ℕ, zero, suc, get_or, ◌+◌, ◌<◌, ◌≤◌, Bool, true, false, eqb, List, [], ◌∷◌}
use Rattle.fixed_worth.proofs.Common.{◌++◌, length, take, drop, Option, Some, None, refl, sym, ap, ◌∙◌, subst, arith}
use Rattle.fixed_worth.proofs.Common.{position, unwrap_or, position_or_len, position-Some, common_steps}
use Rattle.fixed_worth.proofs.Cuts.{position_none}
use Rattle.fixed_worth.specs.declared.limits.TheConstants.{LINE_BYTES}
use Rattle.certificate_file.specs.declared.cert_fault.CertFault.TheVariants as fault
use Rattle.certificate_file.specs.Pieces.{Piece, onto_piece, pieces_of, piece_at, piece_fault}
use Rattle.check_pit.specs.Prelude.{LineView, ReadsSome}
use Rattle.certificate_file.proofs.Splits.{cut_off}

onto_text : (b : ℕ) (ps : List Piece) → (piece_at (onto_piece b ps) 0).text ≡ b ∷ (piece_at ps 0).text
onto_text b ps = grind (arith, common_steps)

-- bytes before the first line feed are in the first piece
longer : (bs future : List ℕ) (j : ℕ) → j ≤ length bs → ((i : ℕ) → i < j → eqb (get_or bs i 0) 10 ≡ false)
    → j ≤ length (piece_at (pieces_of (bs ++ future)) 0).text
longer bs future zero h f = omega arith
longer [] future (suc j) h f = absurd (omega arith)
longer (b ∷ bs) future (suc j) h f =
    let first : eqb b 10 ≡ false = f 0 (omega arith) in
    let ih = longer bs future j (omega arith) (λ i l. f (suc i) (omega arith)) in
    let size = ap length (onto_text b (pieces_of (bs ++ future))) in
    rw first (omega (arith, ih, size))

no_feed_at : (b : ℕ) (bs : List ℕ) (t : Bool) → eqb b 10 ≡ t
    → length (b ∷ bs) ≡ position_or_len (λ x. eqb x 10) (b ∷ bs)
    → (length bs ≡ position_or_len (λ x. eqb x 10) bs → (i : ℕ) → i < length bs → eqb (get_or bs i 0) 10 ≡ false)
    → (i : ℕ) → i < length (b ∷ bs) → eqb (get_or (b ∷ bs) i 0) 10 ≡ false
no_feed_at b bs t e h ih i l = grind (arith, common_steps)

no_feed : (bs : List ℕ) → length bs ≡ position_or_len (λ x. eqb x 10) bs → (i : ℕ) → i < length bs
    → eqb (get_or bs i 0) 10 ≡ false
no_feed [] h i l = absurd (omega arith)
no_feed (b ∷ bs) h i l = no_feed_at b bs (eqb b 10) refl h (no_feed bs) i l

text_too_long : (k : ℕ) (p : Piece) → LINE_BYTES < length p.text → piece_fault k p ≡ Some (fault.Text k)
text_too_long k p h = grind (arith, common_steps)

long_at : (bs : List ℕ) (o : Option ℕ) → position (λ b. eqb b 10) bs ≡ o → LINE_BYTES < unwrap_or o (length bs)
    → (k : ℕ) (future : List ℕ) → piece_fault k (piece_at (pieces_of (bs ++ future)) 0) ≡ Some (fault.Text k)
long_at bs (Some j) e h k future =
    let q = position-Some (λ b. eqb b 10) bs j 0 e in
    let far = longer bs future j (omega (arith, q.0)) q.2 in
    text_too_long k (piece_at (pieces_of (bs ++ future)) 0) (omega (arith, far, h))
long_at bs None e h k future = grind (arith, common_steps, longer, no_feed, position_none, text_too_long)

pub held_too_long : (bs seen : List ℕ) (o : Option ℕ) (u number k : ℕ) → seen ≡ bs → o ≡ position (λ b. eqb b 10) seen
    → u ≡ unwrap_or o (length seen) → LINE_BYTES < u → k ≡ number → (future : List ℕ)
    → piece_fault (number + 1) (piece_at (pieces_of (bs ++ future)) 0) ≡ Some (fault.Text (k + 1))
held_too_long bs seen o u number k same e f h n future = grind (arith, common_steps, eqb, long_at)

pub held_cut_off : (bs later seen : List ℕ) (o : Option ℕ) (u number : ℕ) → seen ≡ bs → later ≡ bs
    → o ≡ position (λ b. eqb b 10) seen → o ≡ None → u ≡ unwrap_or o (length seen) → u ≤ LINE_BYTES
    → piece_fault (number + 1) (piece_at (pieces_of later) 0) ≡ Some fault.Truncated
held_cut_off bs later seen o u number same kept e none f h =
    let far : length seen ≤ LINE_BYTES = omega (arith, h, f ∙ ap (λ (x : Option ℕ). unwrap_or x (length seen)) none) in
    subst (λ (xs : List ℕ). piece_fault (number + 1) (piece_at (pieces_of xs) 0) ≡ Some fault.Truncated)
    (same ∙ sym kept) (cut_off seen number (record { pieces = pieces_of seen; number = number }) refl
    (sym e ∙ none) far)

pub line_inside : (bs seen : List ℕ) (j : ℕ) → seen ≡ bs → position (λ b. eqb b 10) seen ≡ Some j → j < length bs
line_inside bs seen j same e = let q = position-Some (λ b. eqb b 10) seen j 0 e in omega (arith, q.0, ap length same)

-- what was read in two parts was read
pub reads_twice : {R : Type 0} (remaining : R → Option (List ℕ)) (start now later : LineView R)
    → ReadsSome remaining start now → ReadsSome remaining now later → ReadsSome remaining start later
reads_twice remaining start now later (xs, a) (ys, b) = grind (arith, common_steps)

-- nothing is read where a line feed was held at the start: a read follows only where none is held
pub read_without_feed : {R : Type 0} (start now later : LineView R) (seen : List ℕ) (o : Option ℕ)
    → ((count : ℕ) → position (λ b. eqb b 10) start.held ≡ Some count → now ≡ start)
    → seen ≡ now.held → o ≡ position (λ b. eqb b 10) seen → o ≡ None → (count : ℕ)
    → position (λ b. eqb b 10) start.held ≡ Some count → later ≡ start
read_without_feed start now later seen o still same e none count found = grind (arith, common_steps)

-- what is held begins with a line, and after it stands the rest
first_of_held : (bs future : List ℕ) (j : ℕ) → j < length bs → eqb (get_or bs j 0) 10 ≡ true
    → ((i : ℕ) → i < j → eqb (get_or bs i 0) 10 ≡ false)
    → pieces_of (bs ++ future) ≡ record { text = take j bs; ended = true } ∷ pieces_of (drop (suc j) bs ++ future)
first_of_held [] future j h e f = absurd (omega arith)
first_of_held (b ∷ bs) future zero h e f = rw e refl
first_of_held (b ∷ bs) future (suc j) h e f =
    let z : eqb b 10 ≡ false = f 0 (omega arith) in
    rw z (ap (onto_piece b) (first_of_held bs future j (omega arith) e (λ i l. f (suc i) (omega arith))))

pub line_held : (bs : List ℕ) (j : ℕ) → position (λ b. eqb b 10) bs ≡ Some j → (future : List ℕ)
    → pieces_of (bs ++ future) ≡ record { text = take j bs; ended = true } ∷ pieces_of (drop (j + 1) bs ++ future)
line_held bs j e future = grind (arith, common_steps, position-Some, eqb, first_of_held)
