-- A printed value is read back.
use Rattle.fixed_worth.proofs.Common.{◌≡◌, ℕ, ℤ, pos, neg_ℤ, zero, suc, ◌+◌, ◌-◌, ◌*◌, ◌/◌, ◌%◌, ◌^◌, ◌<◌, ◌≤◌, Bool}
use Rattle.fixed_worth.proofs.Common.{true, false, cond, not, eqb, List, [], ◌∷◌, ◌++◌, length, take, drop, replicate}
use Rattle.fixed_worth.proofs.Common.{Result, Ok, Err, refl, sym, ap, ◌∙◌, subst, arith, append-nil, length-append}
use Rattle.fixed_worth.proofs.Common.{pow-add, ◌&&◌, ◌||◌, nat_lt, unsigned_abs, is_negative, decimal, sign_text}
use Rattle.fixed_worth.proofs.Common.{list_all, position_or_len, before_first, after_first, take-append_seam}
use Rattle.fixed_worth.proofs.Common.{take-length, drop-append-add, and_parts, nat_tests, length-replicate, drop_all}
use Rattle.fixed_worth.proofs.Common.{list_all-append, length-decimal-le_wide, decimal_nonempty, common_steps}
use Rattle.fixed_worth.specs.declared.numerals.NumberFault.{NumberFault}
use Rattle.fixed_worth.specs.declared.numerals.NumberFault.TheVariants.{NotANumber, TooLong}
use Rattle.fixed_worth.specs.Prelude.{is_digit, is_number, value_of, is_minus, unsigned_of, with_sign, is_mark}
use Rattle.fixed_worth.specs.Prelude.{is_point, mantissa_of, whole_part, fraction_part, exponent_of, has_mark, most}
use Rattle.fixed_worth.specs.Prelude.{decimal_of, rounded_of, fixed_width, digit_before, without_trailing_zeros}
use Rattle.fixed_worth.specs.Prelude.{fraction_text, amount_text}
use Rattle.fixed_worth.proofs.Digits.{value_of-append}
use Rattle.fixed_worth.proofs.Powers.{rounds_up}
use Rattle.fixed_worth.proofs.Joined.{all_pass_weaker, Breaks, place_of_break}
use Rattle.fixed_worth.proofs.PrintedDigits.{trimmed_digits, zeros_digits}
use Rattle.fixed_worth.proofs.WrittenNumbers.{decimal_digits, value_of-decimal}
use Rattle.fixed_worth.proofs.FirstAmounts.{no_point, passed_all}

-- ---- a fraction

-- Dropped zeros count as tens.
abbrev Same : List ℕ → List ℕ → Type 0
Same short all = (length short ≤ length all) × (value_of short * 10 ^ (length all - length short) ≡ value_of all)

spread : (d p q v w : ℕ) → v * q ≡ w → (d * p + v) * q ≡ d * (p * q) + w
spread d p q v w e = omega (arith, e)

same_before : (d : ℕ) (short all : List ℕ) → Same short all → Same (digit_before d short) (d ∷ all)
same_before d short all s = grind (arith, common_steps, pow-add, spread)

pub trimmed_same : (ds : List ℕ) → Same (without_trailing_zeros ds) ds
trimmed_same [] = (omega arith, refl)
trimmed_same (d ∷ ds) = same_before d (without_trailing_zeros ds) ds (trimmed_same ds)

zeros_value : (k : ℕ) (ds : List ℕ) → value_of (replicate k 48 ++ ds) ≡ value_of ds
zeros_value zero ds = refl
zeros_value (suc k) ds = omega (arith, zeros_value k ds)

-- The places after the point, of which six make one.
abbrev places : ℕ → List ℕ
places f = without_trailing_zeros (fixed_width 6 f)

record Fraction (f : ℕ) (ds : List ℕ) : Type 0 where
  digits : list_all is_digit ds ≡ true
  few : length ds ≤ 6
  value : value_of ds * 10 ^ (6 - length ds) ≡ f

places_are : (f : ℕ) → f < 10 ^ 6 → Fraction f (places f)
places_are f h =
    let all : list_all is_digit (fixed_width 6 f) ≡ true = list_all-append is_digit
    (replicate (6 - length (decimal f)) 48) (decimal f)
    ∙ rw (zeros_digits (6 - length (decimal f)), decimal_digits f (omega arith)) refl in
    let short = length-decimal-le_wide 6 f (omega arith) h (omega arith) in
    let six : length (fixed_width 6 f) ≡ 6 = omega (
      arith,
      length-append (replicate (6 - length (decimal f)) 48) (decimal f),
      length-replicate {A = ℕ}
          (6 - length (decimal f)) 48,
    ) in
    let v : value_of (fixed_width 6 f) ≡ f = zeros_value (6 - length (decimal f)) (decimal f)
    ∙ value_of-decimal f (omega arith) in
    let s = trimmed_same (fixed_width 6 f) in
    record {
      digits = trimmed_digits (fixed_width 6 f) all;
      few = omega (arith, s.0);
      value = ap (λ n. value_of (places f) * 10 ^ (n - length (places f))) (sym six) ∙ s.1 ∙ v;
    }

-- ---- a printed value

-- Each byte of a printed value is a digit, a minus (45) or a point (46).
fraction_all : (q : ℕ → Bool) (f : ℕ) → ((b : ℕ) → is_digit b ≡ true → q b ≡ true) → q 46 ≡ true → f < 10 ^ 6
    → list_all q (fraction_text 6 f) ≡ true
unfolding fraction_text
fraction_all q f d p h = grind
    (arith, common_steps, (places_are f h), (all_pass_weaker is_digit q d (places f) (places_are f h).digits))

sign_all : (q : ℕ → Bool) (t : Bool) → q 45 ≡ true → list_all q (sign_text t) ≡ true
sign_all q t h = grind (arith, common_steps)

pub printed_all : (q : ℕ → Bool) (z : ℤ) → ((b : ℕ) → is_digit b ≡ true → q b ≡ true) → q 46 ≡ true → q 45 ≡ true
    → unsigned_abs z ≤ 10 ^ 18 → list_all q (amount_text 6 z) ≡ true
unfolding amount_text
printed_all q z d p m h = grind (
  arith,
  common_steps,
  (unsigned_abs z / 10 ^ 6),
  (unsigned_abs z % 10 ^ 6),
  (all_pass_weaker is_digit q d (decimal (unsigned_abs z / 10 ^ 6))
      (decimal_digits (unsigned_abs z / 10 ^ 6) (omega arith))),
  (fraction_all q (unsigned_abs z % 10 ^ 6) d p (omega arith)),
  (decimal_digits (unsigned_abs z / 10 ^ 6) (omega arith)),
  (list_all-append q (sign_text (is_negative z))
      (decimal (unsigned_abs z / 10 ^ 6) ++ fraction_text 6 (unsigned_abs z % 10 ^ 6))),
  (sign_all q (is_negative z) m),
  (list_all-append q (decimal (unsigned_abs z / 10 ^ 6)) (fraction_text 6 (unsigned_abs z % 10 ^ 6))),
)

-- The parts of a text that is read as a decimal: what stands before the point and after it, and a minus or none.
record Parts (text whole fraction : List ℕ) (minus : Bool) : Type 0 where
  mark : has_mark text ≡ false
  exponent : exponent_of text ≡ []
  front : whole_part text ≡ whole
  after : fraction_part text ≡ fraction
  sign : is_minus text ≡ minus

-- The decimal of such parts.
abbrev decimal_from : List ℕ → List ℕ → List ℕ → Bool → Bool → Result ℤ NumberFault
decimal_from whole fraction exponent mark minus =
    cond (not (is_number (whole ++ fraction) && (not mark || nat_lt 0 (length (unsigned_of exponent))) && list_all
    is_digit (unsigned_of exponent))) (Err NotANumber)
    (cond (nat_lt 36 (length (whole ++ fraction)) || nat_lt 40 (value_of (unsigned_of exponent))) (Err TooLong)
    (with_sign minus (most (10 ^ 18)
    (rounded_of (value_of (whole ++ fraction)) (cond (is_minus exponent) 6 (6 + value_of (unsigned_of exponent)))
    (cond (is_minus exponent) (length fraction + value_of (unsigned_of exponent)) (length fraction))))))

from_parts : (text whole fraction : List ℕ) (minus : Bool) → Parts text whole fraction minus
    → decimal_of text ≡ decimal_from whole fraction [] false minus
from_parts text whole fraction minus p = grind (arith, common_steps)

-- What the digits of such parts are read as.
digits_read : (whole fraction : List ℕ) (minus : Bool) (n : ℕ) → list_all is_digit (whole ++ fraction) ≡ true
    → 0 < length whole → length whole ≤ 13 → length fraction ≤ 6
    → value_of (whole ++ fraction) * 10 ^ (6 - length fraction) ≡ n → n ≤ 10 ^ 18
    → decimal_from whole fraction [] false minus ≡ Ok (cond minus (neg_ℤ (pos n)) (pos n))
digits_read whole fraction minus n digits some few six value small = grind
    (arith, common_steps, length-append, rounds_up)

-- ---- the parts of a printed value

digit_no_mark : (b : ℕ) → is_digit b ≡ true → not (is_mark b) ≡ true
unfolding is_mark
digit_no_mark b h = grind (arith, nat_tests)

abbrev pointed : Bool → List ℕ → List ℕ
pointed none g = cond none [] (46 ∷ g)

abbrev after_point : Bool → List ℕ → List ℕ
after_point none g = cond none [] g

breaks_at_point : (t : Bool) (g : List ℕ) → Breaks is_point (pointed t g)
unfolding is_point
breaks_at_point t g = grind (arith, common_steps)

after_so : (t : Bool) (w g : List ℕ) → drop (length w + 1) (w ++ pointed t g) ≡ after_point t g
after_so t w g = grind (arith, common_steps, drop_all, length-append, drop-append-add)

no_marks : (s t : Bool) (w g : List ℕ) → list_all is_digit w ≡ true → list_all is_digit g ≡ true
    → list_all (λ b. not (is_mark b)) (sign_text s ++ (w ++ pointed t g)) ≡ true
unfolding is_mark
no_marks s t w g h k = grind (arith, common_steps, list_all-append, pointed, sign_all, all_pass_weaker, digit_no_mark)

parts_are : (s t : Bool) (d : ℕ) (ds g : List ℕ) → list_all is_digit (d ∷ ds) ≡ true → list_all is_digit g ≡ true
    → Parts (sign_text s ++ ((d ∷ ds) ++ pointed t g)) (d ∷ ds) (after_point t g) s
unfolding has_mark exponent_of whole_part fraction_part
parts_are s t d ds g h k =
    let w = d ∷ ds in
    let text = sign_text s ++ ((d ∷ ds) ++ pointed t g) in
    let first : is_digit d ≡ true = (and_parts (is_digit d) (list_all is_digit ds) h).0 in
    let at : position_or_len is_mark (sign_text s ++ ((d ∷ ds) ++ pointed t g)) ≡ length
    (sign_text s ++ ((d ∷ ds) ++ pointed t g)) = passed_all is_mark text (no_marks s t (d ∷ ds) g h k) in
    let all : before_first is_mark text ≡ text = ap (λ n. take n text) at ∙ take-length text in
    let mantissa : mantissa_of text ≡ (d ∷ ds) ++ pointed t g = ap unsigned_of all ∙ (grind (arith, common_steps)) in
    let point : position_or_len is_point ((d ∷ ds) ++ pointed t g) ≡ length (d ∷ ds) = place_of_break is_point
    (d ∷ ds) (pointed t g) (all_pass_weaker is_digit (λ b. not (is_point b)) no_point (d ∷ ds) h)
    (breaks_at_point t g) in
    record {
      mark = (let n = length text in let l : nat_lt (length text) (length text) ≡ false = grind (arith, nat_tests) in
          ap (λ i. nat_lt i (length text)) at ∙ l);
      exponent = ap (λ i. drop (i + 1) text) at ∙ drop_all (length text + 1) text (omega arith);
      front = ap (before_first is_point) mantissa ∙ ap (λ i. take i ((d ∷ ds) ++ pointed t g)) point
          ∙ take-append_seam (d ∷ ds) (pointed t g);
      after = ap (after_first is_point) mantissa ∙ ap (λ i. drop (i + 1) ((d ∷ ds) ++ pointed t g)) point
          ∙ after_so t (d ∷ ds) g;
      sign = grind (arith, common_steps);
    }

after_digits : (t : Bool) (g : List ℕ) → list_all is_digit g ≡ true → list_all is_digit (after_point t g) ≡ true
after_digits t g h = grind (arith, common_steps)

worth_some : (w f : ℕ) (whole g : List ℕ) → value_of whole ≡ w → Fraction f g
    → value_of (whole ++ g) * 10 ^ (6 - length g) ≡ w * 10 ^ 6 + f
worth_some w f whole g e p = grind (
  arith,
  common_steps,
  (pow-add 10 (length g) (6 - length g)),
  (value_of-append whole g),
  (spread w (10 ^ length g) (10 ^ (6 - length g)) (value_of g) f p.value),
)

worth : (w f : ℕ) (t : Bool) (whole : List ℕ) → eqb f 0 ≡ t → value_of whole ≡ w → Fraction f (places f)
    → value_of (whole ++ after_point t (places f)) * 10 ^ (6 - length (after_point t (places f))) ≡ w * 10 ^ 6 + f
worth w f t whole e v p = grind (arith, common_steps, worth_some, append-nil)

signed_back : (z : ℤ) → cond (is_negative z) (neg_ℤ (pos (unsigned_abs z))) (pos (unsigned_abs z)) ≡ z
signed_back z = grind (arith, common_steps)

read_whole : (s t : Bool) (w f n : ℕ) (ds : List ℕ) → decimal w ≡ ds → w < 10 ^ 13 → f < 10 ^ 6 → eqb f 0 ≡ t
    → w * 10 ^ 6 + f ≡ n → n ≤ 10 ^ 18 → decimal_of (sign_text s ++ (ds ++ pointed t (places f)))
    ≡ Ok (cond s (neg_ℤ (pos n)) (pos n))
read_whole s t w f n [] e h k z all small = absurd (omega (arith, ap length e, decimal_nonempty w (omega arith)))
read_whole s t w f n (d ∷ ds) e h k z all small =
    let p = places_are f k in
    let whole : list_all is_digit (d ∷ ds) ≡ true = subst (λ (xs : List ℕ). list_all is_digit xs ≡ true) e
    (decimal_digits w (omega arith)) in
    let digits : list_all is_digit ((d ∷ ds) ++ after_point t (places f)) ≡ true = list_all-append is_digit (d ∷ ds)
    (after_point t (places f)) ∙ rw (whole, after_digits t (places f) p.digits) refl in
    let value : value_of (d ∷ ds) ≡ w = ap value_of (sym e) ∙ value_of-decimal w (omega arith) in
    let few : length (d ∷ ds) ≤ 13 = omega
    (arith, ap length e, length-decimal-le_wide 13 w (omega arith) h (omega arith)) in
    from_parts (sign_text s ++ ((d ∷ ds) ++ pointed t (places f))) (d ∷ ds) (after_point t (places f)) s
    (parts_are s t d ds (places f) whole p.digits)
    ∙ digits_read (d ∷ ds) (after_point t (places f)) s n digits (omega arith) few (grind (arith, common_steps))
    (worth w f t (d ∷ ds) z value p ∙ all) small

-- A printed value is read as that value.
pub printed_read : (z : ℤ) → unsigned_abs z ≤ 10 ^ 18 → decimal_of (amount_text 6 z) ≡ Ok z
unfolding amount_text fraction_text
printed_read z h =
    let n = unsigned_abs z in
    let all : n / 10 ^ 6 * 10 ^ 6 + n % 10 ^ 6 ≡ n = omega arith in
    read_whole (is_negative z) (eqb (n % 10 ^ 6) 0) (n / 10 ^ 6) (n % 10 ^ 6) n (decimal (n / 10 ^ 6)) refl
    (omega arith) (omega arith) refl all h ∙ ap (λ v. Ok v) (signed_back z)

some_digits : (s : Bool) (ds rest : List ℕ) → 0 < length ds → 0 < length (sign_text s ++ (ds ++ rest))
some_digits s ds rest h = omega (arith, length-append (sign_text s) (ds ++ rest), length-append ds rest)

-- Something is printed.
pub printed_some : (z : ℤ) → unsigned_abs z ≤ 10 ^ 18 → 0 < length (amount_text 6 z)
unfolding amount_text
printed_some z h = some_digits (is_negative z) (decimal (unsigned_abs z / 10 ^ 6))
    (fraction_text 6 (unsigned_abs z % 10 ^ 6)) (decimal_nonempty (unsigned_abs z / 10 ^ 6) (omega arith))
