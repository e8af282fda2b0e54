-- What is written of a line is read as that line.
use Rattle.fixed_worth.proofs.Common.{◌≡◌, ℕ, suc, ◌+◌, ◌<◌, ◌≤◌, ◌^◌, Bool, true, false, cond, not, ℤ, pos, negsuc}
use Rattle.fixed_worth.proofs.Common.{List, [], ◌∷◌, length, Option, Some, Ok, refl, ap, ◌∙◌, arith, length-append}
use Rattle.fixed_worth.proofs.Common.{◌&&◌, FitsSigned, w128, decimal, signed_decimal, int_eq, ints}
use Rattle.fixed_worth.proofs.Common.{length-decimal-le_wide, common_steps}
use lib.Chars.{codes}
use Rattle.fixed_worth.specs.declared.limits.TheConstants.{MOST_BLOCKS, LINE_BYTES}
use Rattle.fixed_worth.proofs.PlainNumbers.{printed_is_plain}
use Rattle.ordered_group.specs.Amount.{Amount, is_zero, FitsPair}
use Rattle.certificate_file.specs.declared.body_lines.LineKind.{LineKind}
use Rattle.certificate_file.specs.declared.body_lines.LineKind.TheVariants.{Pit, Source, Rest, Sink}
use Rattle.certificate_file.specs.declared.body_lines.BodyLine.{BodyLine}
use Rattle.certificate_file.specs.Prelude.{number_below, amount_in, numbered_line, block_line, line_of_words, line_of}
use Rattle.certificate_file.specs.Prelude.{Writable, spaced_words, words_with, line_words, pit_at, line_of_block}
use Rattle.certificate_file.proofs.Amounts.{zero_numbers}
use Rattle.certificate_file.proofs.Texts.{is_word, are_words, has_no_feed, words_read, spaced_no_feed, decimal_is_word}
use Rattle.certificate_file.proofs.Texts.{signed_is_word}
use Rattle.certificate_file.proofs.Going.{Counted}

-- A line whose text is read as the line.
pub record Readable (counts : Bool) (n : ℕ) (l : BodyLine) : Type 0 where
  pub read : line_of counts n (spaced_words (line_words l)) ≡ Ok l
  pub feed : has_no_feed (spaced_words (line_words l)) ≡ true
  pub short : length (spaced_words (line_words l)) ≤ LINE_BYTES

pub number_read : (limit b : ℕ) → b < limit → limit ≤ 2 ^ 64 → number_below limit (decimal b) ≡ Some b
number_read limit b h l = grind (arith, common_steps, (printed_is_plain (pos b) (omega (arith, ints))))

pub block_word : (n b : ℕ) → b < n → n ≤ MOST_BLOCKS → (is_word (decimal b) ≡ true) × (length (decimal b) ≤ 8)
block_word n b h l = (
  decimal_is_word b (omega arith),
  length-decimal-le_wide 8 b (omega arith) (omega arith)
      (omega arith),
)

signed_short : (z : ℤ) → FitsSigned w128 z → length (signed_decimal z) ≤ 40
signed_short (pos n) h = let few = length-decimal-le_wide 39 n (omega arith) (omega (arith, ints))
    (omega (arith, ints)) in omega arith
signed_short (negsuc n) h = let few = length-decimal-le_wide 39 (suc n) (omega arith) (omega (arith, ints))
    (omega (arith, ints)) in omega arith

tested : (counts : Bool) (w c : ℤ) (t u : Bool) → int_eq c (pos 0) ≡ t → int_eq w (pos 0) ≡ u → (u && t) ≡ false
    → Counted counts c → cond t (not u) counts ≡ true
tested counts w c t u e f h k = grind (arith, common_steps)

amount_read : (counts : Bool) (x : Amount) → is_zero x ≡ false → Counted counts x.c → FitsPair x
    → amount_in counts (signed_decimal x.w) (signed_decimal x.c) ≡ Some (x.w, x.c)
amount_read counts x h k f = grind (arith, common_steps, ℤ, printed_is_plain, tested, zero_numbers)

-- Words of a line.
all_words : (w : List ℕ) (ws : List (List ℕ)) → is_word w ≡ true → are_words ws ≡ true → are_words (w ∷ ws) ≡ true
all_words w ws e f = rw (e, f) refl

spaced_length : (w v : List ℕ) (ws : List (List ℕ)) (m k : ℕ) → length w ≤ m → length (spaced_words (v ∷ ws)) ≤ k
    → length (spaced_words (w ∷ v ∷ ws)) ≤ m + 1 + k
spaced_length w v ws m k e f = omega (arith, length-append w (32 ∷ spaced_words (v ∷ ws)))

-- From what is said of its words, a line is readable.
readable : (counts : Bool) (n : ℕ) (l : BodyLine) (w : List ℕ) (ws : List (List ℕ)) → line_words l ≡ w ∷ ws
    → are_words (w ∷ ws) ≡ true → line_of_words counts n (w ∷ ws) ≡ Ok l → length (spaced_words (w ∷ ws)) ≤ LINE_BYTES
    → Readable counts n l
readable counts n l w ws e a r s = grind (arith, common_steps, words_read, has_no_feed, spaced_no_feed)

pub pit_readable : (counts : Bool) (n b : ℕ) → n ≤ MOST_BLOCKS → b < n → Readable counts n (pit_at b)
pit_readable counts n b h l =
    let w = block_word n b l h in
    let made : line_of_words counts n (codes "PIT" ∷ decimal b ∷ []) ≡ Ok (pit_at b) = ap
    (λ (o : Option ℕ). numbered_line Pit o (Some 0) (Some (pos 0, pos 0))) (number_read n b l (omega arith)) in
    readable counts n (pit_at b) (codes "PIT") (decimal b ∷ []) refl
    (all_words (codes "PIT") (decimal b ∷ []) refl (all_words (decimal b) [] w.0 refl)) made (omega (arith, w.1))

amount_words : (x : Amount) → FitsPair x → are_words (signed_decimal x.w ∷ signed_decimal x.c ∷ []) ≡ true
amount_words x f = all_words (signed_decimal x.w) (signed_decimal x.c ∷ []) (signed_is_word x.w f.0)
    (all_words (signed_decimal x.c) [] (signed_is_word x.c f.1) refl)

amount_short : (x : Amount) → FitsPair x → length (spaced_words (signed_decimal x.w ∷ signed_decimal x.c ∷ [])) ≤ 81
amount_short x f = let a = signed_short x.w f.0 in let b = signed_short x.c f.1 in omega
    (arith, length-append (signed_decimal x.w) (32 ∷ signed_decimal x.c))

block_made : (counts : Bool) (n b : ℕ) (kind : LineKind) (x : Amount) → n ≤ MOST_BLOCKS → b < n → is_zero x ≡ false
    → Writable counts x → block_line counts n kind (decimal b ∷ signed_decimal x.w ∷ signed_decimal x.c ∷ [])
    ≡ Ok (line_of_block kind b x)
block_made counts n b kind x h l z w = grind (arith, common_steps, number_read, ℤ, amount_read)

block_readable : (counts : Bool) (n b : ℕ) (kind : LineKind) (x : Amount) (key : List ℕ) → n ≤ MOST_BLOCKS → b < n
    → Writable counts x → words_with kind (line_of_block kind b x) ≡ key ∷ decimal b ∷ signed_decimal x.w
    ∷ signed_decimal x.c ∷ [] → is_word key ≡ true → length key ≤ 100
    → line_of_words counts n (key ∷ decimal b ∷ signed_decimal x.w ∷ signed_decimal x.c ∷ [])
    ≡ Ok (line_of_block kind b x) → Readable counts n (line_of_block kind b x)
block_readable counts n b kind x key h l w e k s made =
    let d = block_word n b l h in
    let rest = spaced_length (decimal b) (signed_decimal x.w) (signed_decimal x.c ∷ []) 8 81 d.1
    (amount_short x w.fits) in
    let all = spaced_length key (decimal b) (signed_decimal x.w ∷ signed_decimal x.c ∷ []) 100 (8 + 1 + 81) s rest in
    readable counts n (line_of_block kind b x) key (decimal b ∷ signed_decimal x.w ∷ signed_decimal x.c ∷ []) e
    (all_words key (decimal b ∷ signed_decimal x.w ∷ signed_decimal x.c ∷ []) k
    (all_words (decimal b) (signed_decimal x.w ∷ signed_decimal x.c ∷ []) d.0 (amount_words x w.fits))) made
    (omega (arith, all))

pub source_readable : (counts : Bool) (n b : ℕ) (x : Amount) → n ≤ MOST_BLOCKS → b < n → Writable counts x
    → is_zero x ≡ false → Readable counts n (line_of_block Source b x)
source_readable counts n b x h l w z = block_readable counts n b Source x (codes "SOURCE") h l w refl refl
    (omega arith) (block_made counts n b Source x h l z w)

pub sink_readable : (counts : Bool) (n b : ℕ) (x : Amount) → n ≤ MOST_BLOCKS → b < n → Writable counts x
    → is_zero x ≡ false → Readable counts n (line_of_block Sink b x)
sink_readable counts n b x h l w z = block_readable counts n b Sink x (codes "SINK") h l w refl refl (omega arith)
    (block_made counts n b Sink x h l z w)

-- The line of an amount over a pair.
abbrev pub rest_at : ℕ → ℕ → Amount → BodyLine
rest_at b p x = record { kind = Rest; block = b; other = p; worth = x.w; count = x.c }

pub rest_readable : (counts : Bool) (n b p : ℕ) (x : Amount) → n ≤ MOST_BLOCKS → b < n → p < n → Writable counts x
    → is_zero x ≡ false → Readable counts n (rest_at b p x)
rest_readable counts n b p x h l m w z =
    let d = block_word n b l h in
    let e = block_word n p m h in
    let ws : List (List ℕ) = signed_decimal x.w ∷ signed_decimal x.c ∷ [] in
    let made : line_of_words counts n (codes "REST" ∷ decimal b ∷ decimal p ∷ ws) ≡ Ok (rest_at b p x) =
    ap (λ (o : Option ℕ). numbered_line Rest o (number_below n (decimal p))
    (amount_in counts (signed_decimal x.w) (signed_decimal x.c))) (number_read n b l (omega arith))
    ∙ ap (λ (o : Option ℕ). numbered_line Rest (Some b) o
    (amount_in counts (signed_decimal x.w) (signed_decimal x.c))) (number_read n p m (omega arith))
    ∙ ap (λ (o : Option (ℤ × ℤ)). numbered_line Rest (Some b) (Some p) o) (amount_read counts x z w.count w.fits) in
    let short = spaced_length (decimal b) (decimal p) ws 8 (8 + 1 + 81) d.1
    (spaced_length (decimal p) (signed_decimal x.w) (signed_decimal x.c ∷ []) 8 81 e.1 (amount_short x w.fits)) in
    readable counts n (rest_at b p x) (codes "REST") (decimal b ∷ decimal p ∷ ws) refl
    (all_words (codes "REST") (decimal b ∷ decimal p ∷ ws) refl
    (all_words (decimal b) (decimal p ∷ ws) d.0 (all_words (decimal p) ws e.0 (amount_words x w.fits)))) made
    (omega (arith, short))
