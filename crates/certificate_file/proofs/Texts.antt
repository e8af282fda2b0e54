-- Pieces and words make up their text again, and a text that is made of lines of words has these lines and words.
use Rattle.fixed_worth.proofs.Common.{◌≡◌, ℕ, ◌+◌, ◌<◌, Bool, true, false, cond, not, eqb, List, [], ◌∷◌, ◌++◌, refl}
use Rattle.fixed_worth.proofs.Common.{arith, and_parts, ◌&&◌, ◌^◌, ℤ, FitsSigned, w128, onto_first, list_all, decimal}
use Rattle.fixed_worth.proofs.Common.{signed_decimal, nat_tests, list_all-append, decimal_by_steps_wide, common_steps}
use Rattle.certificate_file.specs.Prelude.{Piece, onto_piece, pieces_of, words_of, spaced_words}

-- The text that pieces make.
abbrev pub pieces_text : List Piece → List ℕ
pieces_text [] = []
pieces_text (p ∷ ps) = p.text ++ cond p.ended (10 ∷ pieces_text ps) (pieces_text ps)

pieces_at : (b : ℕ) (bs : List ℕ) (t : Bool) → eqb b 10 ≡ t → pieces_text (pieces_of bs) ≡ bs
    → pieces_text (cond t (record { text = []; ended = true } ∷ pieces_of bs) (onto_piece b (pieces_of bs))) ≡ b ∷ bs
pieces_at b bs t e ih = grind (arith, common_steps)

pub pieces_make_text : (bs : List ℕ) → pieces_text (pieces_of bs) ≡ bs
pieces_make_text [] = refl
pieces_make_text (b ∷ bs) = pieces_at b bs (eqb b 10) refl (pieces_make_text bs)

words_at : (b : ℕ) (bs : List ℕ) (t : Bool) → eqb b 32 ≡ t → spaced_words (words_of bs) ≡ bs
    → spaced_words (cond t ([] ∷ words_of bs) (onto_first b (words_of bs))) ≡ b ∷ bs
words_at b bs t e ih = grind (arith, common_steps)

pub words_make_line : (bs : List ℕ) → spaced_words (words_of bs) ≡ bs
words_make_line [] = refl
words_make_line (b ∷ bs) = words_at b bs (eqb b 32) refl (words_make_line bs)

-- A word has no line feed and no space.
abbrev pub is_word_byte : ℕ → Bool
is_word_byte b = not (eqb b 10) && not (eqb b 32)

abbrev pub is_word : List ℕ → Bool
is_word w = list_all is_word_byte w

abbrev pub are_words : List (List ℕ) → Bool
are_words ws = list_all is_word ws

byte_parts : (b : ℕ) (r : Bool) → (is_word_byte b && r) ≡ true → (eqb b 10 ≡ false) × (eqb b 32 ≡ false) × (r ≡ true)
byte_parts b r h = grind (arith, common_steps)

word_before : (w rest : List ℕ) → is_word w ≡ true → words_of (w ++ (32 ∷ rest)) ≡ w ∷ words_of rest
word_before [] rest h = refl
word_before (b ∷ w) rest h = grind (arith, common_steps, (word_before w rest (byte_parts b (is_word w) h).2))

word_alone : (w : List ℕ) → is_word w ≡ true → words_of w ≡ w ∷ []
word_alone [] h = refl
word_alone (b ∷ w) h = grind (arith, common_steps, (word_alone w (byte_parts b (is_word w) h).2))

pub words_read : (w : List ℕ) (ws : List (List ℕ)) → are_words (w ∷ ws) ≡ true
    → words_of (spaced_words (w ∷ ws)) ≡ w ∷ ws
words_read w [] h = word_alone w (and_parts (is_word w) true h).0
words_read w (v ∷ ws) h = grind
    (arith, common_steps, and_parts, word_before, (words_read v ws (and_parts (is_word w) (are_words (v ∷ ws)) h).1))

-- A line has no line feed.
abbrev pub has_no_feed : List ℕ → Bool
has_no_feed w = list_all (λ b. not (eqb b 10)) w

feed_parts : (b : ℕ) (r : Bool) → (not (eqb b 10) && r) ≡ true → (eqb b 10 ≡ false) × (r ≡ true)
feed_parts b r h = grind (arith, common_steps)

pub line_before : (line rest : List ℕ) → has_no_feed line ≡ true
    → pieces_of (line ++ (10 ∷ rest)) ≡ record { text = line; ended = true } ∷ pieces_of rest
line_before [] rest h = refl
line_before (b ∷ line) rest h = grind
    (arith, common_steps, (line_before line rest (feed_parts b (has_no_feed line) h).1))

word_feed_at : (b : ℕ) (r s : Bool) → (is_word_byte b && r) ≡ true → (r ≡ true → s ≡ true)
    → (not (eqb b 10) && s) ≡ true
word_feed_at b r s h f = grind (arith, common_steps)

word_no_feed : (w : List ℕ) → is_word w ≡ true → has_no_feed w ≡ true
word_no_feed [] h = refl
word_no_feed (b ∷ w) h = word_feed_at b (is_word w) (has_no_feed w) h (word_no_feed w)

pub spaced_no_feed : (w : List ℕ) (ws : List (List ℕ)) → are_words (w ∷ ws) ≡ true
    → has_no_feed (spaced_words (w ∷ ws)) ≡ true
spaced_no_feed w [] h = word_no_feed w (and_parts (is_word w) true h).0
spaced_no_feed w (v ∷ ws) h = grind (
  arith,
  common_steps,
  and_parts,
  list_all-append,
  word_no_feed,
  (spaced_no_feed v ws (and_parts (is_word w) (are_words (v ∷ ws)) h).1),
)

-- Printed numbers are words.
digit_is : (n : ℕ) → n < 10 → is_word ((48 + n) ∷ []) ≡ true
digit_is n h = grind (arith, nat_tests)

pub decimal_is_word : (n : ℕ) → n < 10 ^ 64 → is_word (decimal n) ≡ true
decimal_is_word n h = decimal_by_steps_wide (λ m ds. is_word ds ≡ true) digit_is
    (λ m ds i w. grind (arith, common_steps)) n h

pub signed_is_word : (z : ℤ) → FitsSigned w128 z → is_word (signed_decimal z) ≡ true
signed_is_word z h = grind (arith, common_steps, decimal_is_word)
