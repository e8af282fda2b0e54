-- The lines of a written file, and their fields.
use Rattle.fixed_worth.proofs.Common.{◌≡◌, ℕ, zero, suc, ◌+◌, ◌*◌, ◌<◌, ◌≤◌, ◌^◌, Bool, true, List, [], ◌∷◌, ◌++◌}
use Rattle.fixed_worth.proofs.Common.{length, refl, ap, ◌∙◌, arith, append_assoc, length-append, All, map, list_all}
use Rattle.fixed_worth.proofs.Common.{decimal, and_from, length-decimal-le, get_or_default, All-weaker, flat_map-map}
use Rattle.fixed_worth.proofs.Common.{list_all-append, common_steps}
use Rattle.fixed_worth.specs.declared.limits.TheConstants.{MOST_BLOCKS, LINE_BYTES}
use Rattle.prec_file.specs.declared.limits.TheConstants.{MOST_PAIRS}
use Rattle.fixed_worth.specs.Prelude.{lines_of, fields_of, with_line_feeds}
use Rattle.fixed_worth.proofs.Joined.{is_one_line, is_word, after_spaces, lines_cut, with_line_feeds-append, fields_cut}
use Rattle.fixed_worth.proofs.Joined.{joined_is_one_line}
use Rattle.fixed_worth.proofs.WrittenNumbers.{decimal_is_word, decimal_is_one_line, decimals_pass}
use Rattle.prec_file.specs.Prelude.{IsKnown, IsRising, above_of, lines_below, AreNarrow}
use Rattle.prec_file.proofs.Finding.{above_at}

-- What is known of a value whose blocks are narrow.
pub record IsWritable (n : ℕ) (ps : List (ℕ × ℕ)) : Type 0 where
  pub blocks : n ≤ MOST_BLOCKS
  pub few : length ps ≤ MOST_PAIRS
  pub known : All (IsKnown n) ps
  pub rising : IsRising ps
  pub narrow : AreNarrow (record { blocks = n; pairs = ps })

-- the predecessors of a block are blocks
pub above_known : (n : ℕ) (ps : List (ℕ × ℕ)) (b : ℕ) → IsWritable n ps → All (λ p. p < n) (above_of ps b)
above_known n ps b w k d l = grind
    (arith, common_steps, (above_at ps w.rising b k l), (get_or_default (above_of ps b) k 0 d l))

-- The words after the block.
abbrev pub words_at : List (ℕ × ℕ) → ℕ → List (List ℕ)
words_at ps b = decimal (length (above_of ps b)) ∷ map decimal (above_of ps b)

-- The line without its line feed, and all lines below a block.
abbrev pub row : List (ℕ × ℕ) → ℕ → List ℕ
row ps b = decimal b ++ after_spaces (words_at ps b)

abbrev pub rows : List (ℕ × ℕ) → ℕ → List (List ℕ)
rows ps zero = []
rows ps (suc b) = rows ps b ++ (row ps b ∷ [])

regroup : (x y s t : List ℕ) → (x ++ y) ++ (s ++ t) ≡ (x ++ (y ++ s)) ++ t
regroup x y s t = simp append_assoc

text_is : (ps : List (ℕ × ℕ)) (n : ℕ) → lines_below ps n ≡ with_line_feeds (rows ps n)
text_is ps zero = refl
text_is ps (suc n) = grind
    (arith, common_steps, rows, with_line_feeds-append, row, (text_is ps n), after_spaces, flat_map-map, regroup)

pub small_blocks : (n : ℕ) (ps : List (ℕ × ℕ)) (b : ℕ) → IsWritable n ps → All (λ p. p < 2 ^ 64) (above_of ps b)
small_blocks n ps b w = All-weaker (λ p. p < n) (λ p. p < 2 ^ 64) (λ p l. omega (arith, w.blocks)) (above_of ps b)
    (above_known n ps b w)

words_pass : (test : List ℕ → Bool) → ((k : ℕ) → k < 2 ^ 64 → test (decimal k) ≡ true)
    → (n : ℕ) (ps : List (ℕ × ℕ)) (b : ℕ) → IsWritable n ps → b < n → list_all test (words_at ps b) ≡ true
words_pass test each n ps b w l = grind
    (arith, common_steps, (decimals_pass test each (above_of ps b) (small_blocks n ps b w)), (small_blocks n ps b w))

row_is_one_line : (n : ℕ) (ps : List (ℕ × ℕ)) (b : ℕ) → IsWritable n ps → b < n → is_one_line (row ps b) ≡ true
row_is_one_line n ps b w l =
    joined_is_one_line (decimal b) (words_at ps b) (decimal_is_one_line b (omega (arith, w.blocks)))
    (words_pass is_one_line decimal_is_one_line n ps b w l)

rows_are_lines : (n : ℕ) (ps : List (ℕ × ℕ)) (m : ℕ) → IsWritable n ps → m ≤ n → list_all is_one_line (rows ps m) ≡ true
rows_are_lines n ps zero w l = refl
rows_are_lines n ps (suc m) w l =
    list_all-append is_one_line (rows ps m) (row ps m ∷ [])
    ∙ and_from (list_all is_one_line (rows ps m)) (list_all is_one_line (row ps m ∷ []))
    (rows_are_lines n ps m w (omega arith))
    (and_from (is_one_line (row ps m)) true (row_is_one_line n ps m w (omega arith)) refl)

-- the lines of the text
pub text_lines : (n : ℕ) (ps : List (ℕ × ℕ)) → IsWritable n ps → lines_of (lines_below ps n) ≡ rows ps n
text_lines n ps w = ap lines_of (text_is ps n) ∙ lines_cut (rows ps n) (rows_are_lines n ps n w (omega arith))

-- the fields of a line
pub row_fields : (n : ℕ) (ps : List (ℕ × ℕ)) (b : ℕ) → IsWritable n ps → b < n
    → fields_of (row ps b) ≡ decimal b ∷ words_at ps b
row_fields n ps b w l = fields_cut (decimal b) (words_at ps b) (decimal_is_word b (omega (arith, w.blocks)))
    (words_pass is_word decimal_is_word n ps b w l)

-- how long a line is
numbers_short : (xs : List ℕ) → All (λ p. p < MOST_BLOCKS) xs → length (after_spaces (map decimal xs)) ≤ 9 * length xs
numbers_short [] h = omega arith
numbers_short (x ∷ xs) h =
    let here : x < MOST_BLOCKS = h 0 0 (omega arith) in
    let a : length (decimal x) ≤ 8 = length-decimal-le 8 x (omega arith) (omega arith) (omega arith) in
    let b = numbers_short xs (λ k d l. h (suc k) d (omega arith)) in
    omega (arith, length-append (32 ∷ decimal x) (after_spaces (map decimal xs)))

pub row_short : (n : ℕ) (ps : List (ℕ × ℕ)) (b : ℕ) → IsWritable n ps → b < n → length (row ps b) ≤ LINE_BYTES
row_short n ps b w l =
    let above = above_of ps b in
    let few = w.narrow b l in
    let head : length (decimal b) ≤ 8 = length-decimal-le 8 b (omega arith) (omega (arith, w.blocks))
    (omega (arith, w.blocks)) in
    let count : length (decimal (length above)) ≤ 4 = length-decimal-le 4 (length above) (omega arith) (omega arith)
    (omega arith) in
    let rest = numbers_short above
    (All-weaker (λ p. p < n) (λ p. p < MOST_BLOCKS) (λ p i. omega (arith, w.blocks)) above
    (above_known n ps b w)) in
    omega (
      arith,
      length-append (decimal b) (after_spaces (words_at ps b)),
      length-append
          (32 ∷ decimal (length above)) (after_spaces (map decimal above)),
    )
