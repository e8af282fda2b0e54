-- Lines and words that are put together are cut apart again.
use Rattle.fixed_worth.proofs.Common.{◌≡◌, ℕ, ◌+◌, Bool, true, false, not, eqb, List, [], ◌∷◌, ◌++◌, length, refl, sym}
use Rattle.fixed_worth.proofs.Common.{ap, ◌∙◌, subst, arith, append-nil, ◌&&◌, map, nat_lt, list_all, flat_map}
use Rattle.fixed_worth.proofs.Common.{position_or_len, not-true, and_parts, and_from, list_all-append, take-append_seam}
use Rattle.fixed_worth.proofs.Common.{drop-append_seam, common_steps}
use Rattle.fixed_worth.specs.Prelude.{lines_of, fields_of, is_separator, runs_from, with_line_feeds}
use Rattle.fixed_worth.proofs.Cuts.{Runs, first_run}

-- ---- tests of all bytes

-- what passes a test passes one that asks for less
pub all_pass_weaker : (p q : ℕ → Bool) → ((b : ℕ) → p b ≡ true → q b ≡ true) → (bs : List ℕ) → list_all p bs ≡ true
    → list_all q bs ≡ true
all_pass_weaker p q w [] h = refl
all_pass_weaker p q w (b ∷ bs) h = grind
    (arith, common_steps, (all_pass_weaker p q w bs (and_parts (p b) (list_all p bs) h).1))

-- ---- lines

-- no byte is a line feed
abbrev pub is_one_line : List ℕ → Bool
is_one_line line = list_all (λ b. not (eqb b 10)) line

-- a line, its line feed, and what follows
pub line_cut : (line rest : List ℕ) → is_one_line line ≡ true → lines_of (line ++ (10 ∷ rest)) ≡ line ∷ lines_of rest
line_cut [] rest h = refl
line_cut (b ∷ bs) rest h = grind
    (arith, common_steps, (line_cut bs rest (and_parts (not (eqb b 10)) (is_one_line bs) h).1))

-- lines with a line feed after each are the lines of their text
pub lines_cut : (lines : List (List ℕ)) → list_all is_one_line lines ≡ true → lines_of (with_line_feeds lines) ≡ lines
lines_cut [] h = refl
lines_cut (line ∷ lines) h = grind (
  arith,
  common_steps,
  and_parts,
  line_cut,
  (lines_cut lines (and_parts (is_one_line line) (list_all is_one_line lines) h).1),
)

pub with_line_feeds-append : (xs ys : List (List ℕ)) → with_line_feeds (xs ++ ys) ≡ with_line_feeds xs
    ++ with_line_feeds ys
with_line_feeds-append [] ys = refl
with_line_feeds-append (x ∷ xs) ys = grind (arith, common_steps, (with_line_feeds-append xs ys))

-- ---- words

-- no byte is a separator, and there is one
abbrev pub is_word : List ℕ → Bool
is_word word = nat_lt 0 (length word) && list_all (λ b. not (is_separator b)) word

-- words, a space (32) before each
abbrev pub after_spaces : List (List ℕ) → List ℕ
after_spaces words = flat_map (λ word. 32 ∷ word) words

-- a text is empty, or its first byte passes
abbrev pub Breaks : (ℕ → Bool) → List ℕ → Type 0
Breaks p [] = Unit {0}
Breaks p (b ∷ bs) = p b ≡ true

-- where no byte passes, and then the text breaks, the first place is there
pub place_of_break : (p : ℕ → Bool) (word rest : List ℕ) → list_all (λ b. not (p b)) word ≡ true → Breaks p rest
    → position_or_len p (word ++ rest) ≡ length word
place_of_break p [] [] h r = refl
place_of_break p [] (b ∷ bs) h r = rw r refl
place_of_break p (b ∷ word) rest h r =
    let q = and_parts (not (p b)) (list_all (λ c. not (p c)) word) h in
    let e : p b ≡ false = not-true (p b) q.0 in
    let n : position_or_len p (b ∷ (word ++ rest)) ≡ 1 + position_or_len p (word ++ rest) = rw e refl in
    omega (arith, n, place_of_break p word rest q.1 r)

-- a word, and then nothing or a separator: the first field is the word
pub word_run : (p : ℕ) (word rest : List ℕ) → is_word word ≡ true → Breaks is_separator rest
    → runs_from p (word ++ rest) ≡ record { text = word; place = p } ∷ runs_from (p + length word) rest
word_run p [] rest h r = absurd cc
word_run p (b ∷ bs) rest h r =
    let s = (and_parts (nat_lt 0 (length (b ∷ bs))) (list_all (λ x. not (is_separator x)) (b ∷ bs)) h).1 in
    let e : is_separator b ≡ false = not-true (is_separator b)
    (and_parts (not (is_separator b)) (list_all (λ x. not (is_separator x)) bs) s).0 in
    let runs : Runs p (b ∷ bs ++ rest) (length (b ∷ bs)) = subst (λ (w : ℕ). Runs p (b ∷ bs ++ rest) w)
    (place_of_break is_separator (b ∷ bs) rest s r) (first_run p (b ∷ bs ++ rest) (omega arith) e) in
    grind (
      arith,
      common_steps,
      take-append_seam,
      drop-append_seam,
      and_parts,
      not-true,
      Runs,
      place_of_break,
      first_run,
    )

-- a separator before the fields
pub gap_run : (p b : ℕ) (rest : List ℕ) → is_separator b ≡ true → runs_from p (b ∷ rest) ≡ runs_from (p + 1) rest
gap_run p b rest h = rw h refl

-- a word is one field
pub word_alone : (p : ℕ) (word : List ℕ) → is_word word ≡ true → runs_from p word ≡ record { text = word; place = p }
    ∷ []
word_alone p word h = ap (runs_from p) (sym (append-nil word)) ∙ word_run p word [] h tt

space : is_separator 32 ≡ true
unfolding is_separator
space = refl

-- the first word of a line
word_cut : (p : ℕ) (word rest : List ℕ) → is_word word ≡ true
    → runs_from p (word ++ (32 ∷ rest)) ≡ record { text = word; place = p } ∷ runs_from (p + length word + 1) rest
word_cut p word rest h = grind (arith, common_steps, word_run, space, gap_run)

words_cut : (p : ℕ) (word : List ℕ) (words : List (List ℕ)) → is_word word ≡ true → list_all is_word words ≡ true
    → map (λ r. r.text) (runs_from p (word ++ after_spaces words)) ≡ word ∷ words
words_cut p word [] h g = grind (arith, common_steps, append-nil, word_alone)
words_cut p word (next ∷ words) h g = grind (
  arith,
  common_steps,
  and_parts,
  word_cut,
  (words_cut (p + length word + 1) next words (and_parts (is_word next) (list_all is_word words) g).0
      (and_parts (is_word next) (list_all is_word words) g).1),
)

-- words with single spaces between are the fields of their line
pub fields_cut : (word : List ℕ) (words : List (List ℕ)) → is_word word ≡ true → list_all is_word words ≡ true
    → fields_of (word ++ after_spaces words) ≡ word ∷ words
fields_cut = words_cut 0

after_spaces_is_one_line : (words : List (List ℕ)) → list_all is_one_line words ≡ true
    → is_one_line (after_spaces words) ≡ true
after_spaces_is_one_line [] h = refl
after_spaces_is_one_line (word ∷ words) h = grind (
  arith,
  common_steps,
  (after_spaces_is_one_line words
      (and_parts (is_one_line word) (list_all is_one_line words) h).1),
)

-- words without line feeds, with single spaces between, are one line
pub joined_is_one_line : (word : List ℕ) (words : List (List ℕ)) → is_one_line word ≡ true
    → list_all is_one_line words ≡ true → is_one_line (word ++ after_spaces words) ≡ true
joined_is_one_line word words h g = grind (arith, common_steps, list_all-append, and_from, after_spaces_is_one_line)
