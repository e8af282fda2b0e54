-- Where a text is cut into pieces, and a line into words.
use Rattle.fixed_worth.proofs.Common.{◌≡◌, ℕ, zero, suc, get_or, ◌+◌, ◌<◌, ◌≤◌, Bool, true, false, cond, eqb, List, []}
use Rattle.fixed_worth.proofs.Common.{◌∷◌, length, take, drop, Some, None, refl, sym, ap, ◌∙◌, subst, arith, ltb}
use Rattle.fixed_worth.proofs.Common.{position, position_or_len, position-Some, nat_tests, common_steps}
use Rattle.fixed_worth.specs.declared.limits.TheConstants.{LINE_BYTES}
use Rattle.fixed_worth.proofs.Cuts.{position_none}
use Rattle.certificate_file.specs.declared.cert_fault.CertFault.TheVariants as fault
use Rattle.certificate_file.specs.Pieces.{Piece, Unread, onto_piece, pieces_of, piece_at, words_of, piece_fault}

-- The first line ends at the first line feed.
piece_to : (bs : List ℕ) (j : ℕ) → j < length bs → eqb (get_or bs j 0) 10 ≡ true
    → ((k : ℕ) → k < j → eqb (get_or bs k 0) 10 ≡ false)
    → pieces_of bs ≡ record { text = take j bs; ended = true } ∷ pieces_of (drop 1 (drop j bs))
piece_to [] j h e f = absurd (omega arith)
piece_to (b ∷ bs) zero h e f = rw e refl
piece_to (b ∷ bs) (suc j) h e f =
    let z : eqb b 10 ≡ false = f 0 (omega arith) in
    rw z (ap (onto_piece b) (piece_to bs j (omega arith) e (λ k i. f (suc k) (omega arith))))

pub first_piece : (bs : List ℕ) (j : ℕ) → position (λ x. eqb x 10) bs ≡ Some j
    → pieces_of bs ≡ record { text = take j bs; ended = true } ∷ pieces_of (drop 1 (drop j bs))
first_piece bs j e = let q = position-Some (λ x. eqb x 10) bs j 0 e in piece_to bs j q.0 q.1 q.2

last_at : (b : ℕ) (bs : List ℕ) (t : Bool) → eqb b 10 ≡ t → length (b ∷ bs) ≡ position_or_len (λ x. eqb x 10) (b ∷ bs)
    → (length bs ≡ position_or_len (λ x. eqb x 10) bs → piece_at (pieces_of bs) 0 ≡ record { text = bs; ended = false })
    → piece_at (pieces_of (b ∷ bs)) 0 ≡ record { text = b ∷ bs; ended = false }
last_at b bs t e h ih = grind (arith, common_steps)

-- Without a line feed all is one piece, which none ends.
unended : (bs : List ℕ) → length bs ≡ position_or_len (λ x. eqb x 10) bs
    → piece_at (pieces_of bs) 0 ≡ record { text = bs; ended = false }
unended [] h = refl
unended (b ∷ bs) h = last_at b bs (eqb b 10) refl h (unended bs)

pub last_piece : (bs : List ℕ) → position (λ x. eqb x 10) bs ≡ None
    → piece_at (pieces_of bs) 0 ≡ record { text = bs; ended = false }
last_piece bs e = unended bs (position_none _ bs e)

more_than_none : (n : ℕ) → eqb (suc n) 0 ≡ false
more_than_none n = grind (arith, nat_tests)

-- There is a piece exactly where there is a byte.
pub none_left : (bs : List ℕ) → eqb (length bs) 0 ≡ eqb (length (pieces_of bs)) 0
none_left [] = refl
none_left (b ∷ bs) = more_than_none (length bs) ∙ sym (grind (arith, common_steps))

-- The steps of the readers.
too_long : (k : ℕ) (p : Piece) (bs : List ℕ) → p.text ≡ bs → LINE_BYTES < length bs
    → piece_fault k p ≡ Some (fault.Text k)
too_long k p bs e h = grind (arith, common_steps)

pub long_first : (bs : List ℕ) (j k : ℕ) (v : Unread) → record { pieces = pieces_of bs; number = k } ≡ v
    → position (λ x. eqb x 10) bs ≡ Some j → LINE_BYTES < j → piece_fault (v.number + 1) (piece_at v.pieces 0) ≡ Some
    (fault.Text (k + 1))
long_first bs j k v is e h = grind (arith, common_steps, (first_piece bs j e))

pub long_last : (bs : List ℕ) (k : ℕ) (v : Unread) → record { pieces = pieces_of bs; number = k } ≡ v
    → position (λ x. eqb x 10) bs ≡ None → LINE_BYTES < length bs → piece_fault (v.number + 1) (piece_at v.pieces 0)
    ≡ Some (fault.Text (k + 1))
long_last bs k v is e h = grind (arith, common_steps, last_piece)

pub cut_off : (bs : List ℕ) (k : ℕ) (v : Unread) → record { pieces = pieces_of bs; number = k } ≡ v
    → position (λ x. eqb x 10) bs ≡ None → length bs ≤ LINE_BYTES → piece_fault (v.number + 1) (piece_at v.pieces 0)
    ≡ Some fault.Truncated
cut_off bs k v is e h = grind (arith, common_steps, ltb, last_piece)

pub line_given : (bs line back rest : List ℕ) (j k : ℕ) (v : Unread)
    → record { pieces = pieces_of bs; number = k } ≡ v → position (λ x. eqb x 10) bs ≡ Some j → line ≡ take j bs
    → back ≡ drop j bs → rest ≡ drop 1 back → v.pieces ≡ record { text = line; ended = true } ∷ pieces_of rest
line_given bs line back rest j k v is e f g h = sym (ap (λ (w : Unread). w.pieces) is)
    ∙ rw (f, h, g) (first_piece bs j e)

pub words_left : (ws : List (List ℕ)) (d t : Bool) (bs : List ℕ) → cond d [] (words_of bs) ≡ ws → d ≡ t
    → cond t [] (words_of bs) ≡ ws
words_left ws d t bs is e = subst (λ (b : Bool). cond b [] (words_of bs) ≡ ws) e is

pub word_step : (ws : List (List ℕ)) (d : Bool) (bs word rest : List ℕ) → cond d [] (words_of bs) ≡ ws → d ≡ false
    → words_of bs ≡ word ∷ words_of rest → ws ≡ word ∷ cond d [] (words_of rest)
word_step ws d bs word rest is off cut = grind (arith, common_steps)
