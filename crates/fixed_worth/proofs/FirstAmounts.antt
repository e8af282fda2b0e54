-- A decimal that stands first in a line: a sign, digits, a point and digits.
use Rattle.fixed_worth.proofs.Common.{◌≡◌, ℕ, suc, ◌+◌, ◌-◌, ◌*◌, ◌^◌, ◌<◌, ◌≤◌, Bool, true, false, cond, not, eqb}
use Rattle.fixed_worth.proofs.Common.{List, [], ◌∷◌, ◌++◌, length, take, drop, get_or, pos, refl, sym, ap, ◌∙◌, arith}
use Rattle.fixed_worth.proofs.Common.{lit<, length-append, append-nil, append_assoc, pow-add, ℤ, ◌||◌, nat_lt, nat_le}
use Rattle.fixed_worth.proofs.Common.{neg_ℤ, Ok, Some, Result, list_all, position_or_len, before_first, after_first}
use Rattle.fixed_worth.proofs.Common.{and_from, nat_tests, drop_all, take-append-drop, length-take-le, list_all-append}
use Rattle.fixed_worth.proofs.Common.{mul-le-mul_left, pow-le-pow_right, drop-append_seam, take-length, common_steps}
use Rattle.fixed_worth.specs.Prelude.{is_digit, value_of, is_minus, unsigned_of, first_decimal, is_mark, is_point}
use Rattle.fixed_worth.specs.Prelude.{whole_part, fraction_part, exponent_of, has_mark, decimal_of, rounded_of}
use Rattle.fixed_worth.specs.Prelude.{MayFollow, BeginsWithField, BeginsWithFraction, WordRun, is_separator}
use Rattle.fixed_worth.specs.declared.numerals.NumberFault.{NumberFault}
use Rattle.fixed_worth.proofs.Digits.{value_of-append, value_below}
use Rattle.fixed_worth.proofs.FirstNumbers.{passed, begins_with}
use Rattle.fixed_worth.proofs.Powers.{rounds_up, ten_positive}
use Rattle.fixed_worth.proofs.Joined.{all_pass_weaker}

-- The bytes of a decimal without an exponent.
abbrev is_plain_byte : ℕ → Bool
is_plain_byte b = is_digit b || (eqb b 46 || (eqb b 43 || eqb b 45))

no_separator : (b : ℕ) → is_plain_byte b ≡ true → not (is_separator b) ≡ true
unfolding is_separator
no_separator b h = grind arith

no_mark : (b : ℕ) → is_plain_byte b ≡ true → not (is_mark b) ≡ true
unfolding is_mark
no_mark b h = grind arith

pub no_point : (b : ℕ) → is_digit b ≡ true → not (is_point b) ≡ true
unfolding is_point
no_point b h = grind arith

digit_plain : (b : ℕ) → is_digit b ≡ true → is_plain_byte b ≡ true
digit_plain b h = grind arith

pub passed_all : (p : ℕ → Bool) (xs : List ℕ) → list_all (λ b. not (p b)) xs ≡ true → position_or_len p xs ≡ length xs
passed_all p xs h = grind (arith, common_steps, (passed p xs [] h), (append-nil xs))

-- The field that stands first, of which this is what stands after its sign.
record Front (text unsigned rest : List ℕ) : Type 0 where
  field : List ℕ
  all : text ≡ field ++ rest
  without : unsigned_of field ≡ unsigned
  minus : is_minus field ≡ is_minus text
  plain : list_all is_plain_byte unsigned ≡ true → list_all is_plain_byte field ≡ true
  some : 0 < length field

front_at : (b : ℕ) (bs unsigned rest : List ℕ) (t : Bool) → (eqb b 43 || eqb b 45) ≡ t
    → cond t bs (b ∷ bs) ≡ unsigned ++ rest → 0 < length unsigned → Front (b ∷ bs) unsigned rest
front_at b bs unsigned rest true e h some = record {
  field = b ∷ unsigned;
  all = ap (λ xs. b ∷ xs) h;
  without = rw e refl;
  minus = refl;
  plain = λ a. and_from (is_plain_byte b) (list_all is_plain_byte unsigned) (grind arith) a;
  some = omega arith;
}
front_at b bs [] rest false e h some = absurd (omega arith)
front_at b bs (u ∷ us) rest false e h some =
    let same : b ≡ u = ap (λ xs. get_or xs 0 0) h in
    let f : (eqb u 43 || eqb u 45) ≡ false = ap (λ x. eqb x 43 || eqb x 45) (sym same) ∙ e in
    record {
      field = u ∷ us;
      all = h;
      without = rw f refl;
      minus = ap (λ x. eqb x 45) (sym same);
      plain = λ a. a;
      some = omega arith;
    }

front : (text unsigned rest : List ℕ) → unsigned_of text ≡ unsigned ++ rest → 0 < length unsigned
    → Front text unsigned rest
front text unsigned rest h some = grind (arith, common_steps, length-append, front_at)

-- The parts of such a field.
whole_is : (field whole point fraction : List ℕ) → unsigned_of field ≡ whole ++ (point ++ fraction)
    → before_first is_mark field ≡ field → list_all is_digit whole ≡ true → MayFollow fraction point
    → whole_part field ≡ whole
unfolding whole_part is_point
whole_is field whole point fraction e m h f = grind (arith, common_steps, all_pass_weaker, passed_all, passed)

fraction_is : (field whole point fraction : List ℕ) → unsigned_of field ≡ whole ++ (point ++ fraction)
    → before_first is_mark field ≡ field → list_all is_digit whole ≡ true → MayFollow fraction point
    → fraction_part field ≡ fraction
unfolding fraction_part is_point
fraction_is field whole [] fraction e m h f = grind (arith, common_steps, all_pass_weaker, passed_all)
fraction_is field whole (b ∷ bs) fraction e m h f =
    let joined : whole ++ (b ∷ bs ++ fraction) ≡ (whole ++ b ∷ []) ++ fraction = ap
    (λ xs. whole ++ (b ∷ xs ++ fraction)) f.1 ∙ sym (append_assoc whole (b ∷ []) fraction) in
    grind (arith, common_steps, drop-append_seam, all_pass_weaker, no_point, eqb, append_assoc, length-append, passed)

-- Its value.
scaled : (v f a b : ℕ) → (v * a + f) * b ≡ v * (a * b) + f * b
scaled v f a b = omega arith

value_scaled : (whole fraction : List ℕ) → length fraction ≤ 6
    → rounded_of (value_of (whole ++ fraction)) 6 (length fraction) ≡ value_of whole * 10 ^ 6 + value_of fraction
    * 10 ^ (6 - length fraction)
value_scaled whole fraction h = grind (
  arith,
  common_steps,
  (length fraction),
  (pow-add 10 (length fraction) (6 - (length fraction))),
  (rounds_up (value_of (whole ++ fraction)) 6 (length fraction) h),
  (value_of-append whole fraction),
  (scaled (value_of whole) (value_of fraction) (10 ^ (length fraction)) (10 ^ (6 - (length fraction)))),
)

-- It is at most a million million units.
bounded : (v f p q : ℕ) → v < 10 ^ 12 → f * q < p * q → p * q ≡ 10 ^ 6 → v * 10 ^ 6 + f * q ≤ 10 ^ 18
bounded v f p q h j e = omega arith

shifted_below : (f p q : ℕ) → f < p → 0 < q → f * q < p * q
shifted_below f p q h some = let e : q * suc f ≤ q * p = mul-le-mul_left q (omega arith) in omega (arith, e)

pub small_sum : (whole fraction places : ℕ) → whole < 10 ^ 12 → places ≤ 6 → fraction < 10 ^ places
    → whole * 10 ^ 6 + fraction * 10 ^ (6 - places) ≤ 10 ^ 18
small_sum whole fraction places h few j = grind (
  arith,
  common_steps,
  (pow-add 10 places (6 - places)),
  (shifted_below fraction (10 ^ places) (10 ^ (6 - places)) j (ten_positive (6 - places))),
  (ten_positive (6 - places)),
)

pub small_value : (whole fraction : List ℕ) → list_all is_digit whole ≡ true → list_all is_digit fraction ≡ true
    → length whole ≤ 12 → length fraction ≤ 6
    → value_of whole * 10 ^ 6 + value_of fraction * 10 ^ (6 - length fraction) ≤ 10 ^ 18
small_value whole fraction h j w f =
    let k = length fraction in
    let split : k + (6 - k) ≡ 6 = omega arith in
    let power : 10 ^ k * 10 ^ (6 - k) ≡ 10 ^ 6 = sym (pow-add 10 k (6 - k)) ∙ ap (λ n. 10 ^ n) split in
    let a = value_below whole h in
    grind (arith, common_steps, bounded, shifted_below, ten_positive, pow-add, value_below, pow-le-pow_right, lit<)

-- What the definition says of it.
decimal_is : (field whole point fraction : List ℕ) → unsigned_of field ≡ whole ++ (point ++ fraction)
    → list_all is_plain_byte field ≡ true → list_all is_digit whole ≡ true → list_all is_digit fraction ≡ true
    → MayFollow fraction point
    → length whole ≤ 12 → length fraction ≤ 6 → 0 < length whole + length fraction
    → decimal_of field ≡ Ok (cond (is_minus field)
    (neg_ℤ (pos (value_of whole * 10 ^ 6 + value_of fraction * 10 ^ (6 - length fraction))))
    (pos (value_of whole * 10 ^ 6 + value_of fraction * 10 ^ (6 - length fraction))))
unfolding exponent_of has_mark
decimal_is field whole point fraction e plain h j f few small some =
    let at : position_or_len is_mark field ≡ length field = passed_all is_mark field
    (all_pass_weaker is_plain_byte (λ b. not (is_mark b)) no_mark field plain) in
    let m : before_first is_mark field ≡ field = ap (λ n. take n field) at ∙ take-length field in
    let none : after_first is_mark field ≡ [] = drop_all (position_or_len is_mark field + 1) field
    (omega (arith, at)) in
    let unmarked : nat_lt (position_or_len is_mark field) (length field) ≡ false = grind (arith, nat_tests) in
    let size = length-append whole fraction in
    let one : nat_lt 0 (length (whole ++ fraction)) ≡ true = let s : 0 < length (whole ++ fraction) = omega
    (arith, size) in grind (arith, nat_tests) in
    let digits : list_all is_digit (whole ++ fraction) ≡ true = list_all-append is_digit whole fraction
    ∙ and_from _ _ h j in
    let short : nat_lt 36 (length (whole ++ fraction)) ≡ false = let s : length (whole ++ fraction) ≤ 36 = omega
    (arith, size) in grind (arith, nat_tests) in
    let most : nat_le (value_of whole * 10 ^ 6 + value_of fraction * 10 ^ (6 - length fraction)) (10 ^ 18)
    ≡ true = let s = small_value whole fraction h j few small in grind (arith, nat_tests) in
    rw (
      whole_is field whole point fraction e m h f,
      fraction_is field whole point fraction e m h f,
      none,
      unmarked,
      one,
      digits,
      short,
    ) (rw (value_scaled whole fraction small, most) refl)

-- A decimal with at most twelve digits before its point and six after it is the first field where a separator or the
-- end follows.
pub amount_read : (text whole past left rest : List ℕ) (value places : ℕ) → unsigned_of text ≡ whole ++ past
    → BeginsWithFraction past value places left → list_all is_digit whole ≡ true
    → length whole ≤ 12 → places ≤ 6 → 0 < length whole + places → rest ≡ drop 1 left
    → (0 < length left → is_separator (get_or left 0 0) ≡ true)
    → (field : List ℕ) × BeginsWithField text field rest
    × (decimal_of field ≡ Ok (cond (is_minus text) (neg_ℤ (pos (value_of whole * 10 ^ 6 + value * 10 ^ (6 - places))))
    (pos (value_of whole * 10 ^ 6 + value * 10 ^ (6 - places)))))
amount_read text whole past left rest value places e g h few small some r ends =
    let unsigned = whole ++ (g.point ++ g.digits) in
    let joined : whole ++ past ≡ unsigned ++ left = ap (λ xs. whole ++ xs)
    (g.all ∙ sym (append_assoc g.point g.digits left)) ∙ sym (append_assoc whole (g.point ++ g.digits) left) in
    let size = length-append whole (g.point ++ g.digits) in
    let more = length-append g.point g.digits in
    let f = front text unsigned left (e ∙ joined) (omega (arith, size, more, g.places_are)) in
    let all = all_pass_weaker is_digit is_plain_byte digit_plain in
    let plain = f.plain (list_all-append is_plain_byte whole (g.point ++ g.digits)
    ∙ and_from _ _ (all whole h) (grind (arith, common_steps))) in
    let inside = all_pass_weaker is_plain_byte (λ b. not (is_separator b)) no_separator f.field plain in
    let read = decimal_is f.field whole g.point g.digits f.without plain h g.are_digits g.form few
    (omega (arith, g.places_are)) (omega (arith, g.places_are)) in
    let number : value_of whole * 10 ^ 6 + value_of g.digits * 10 ^ (6 - length g.digits) ≡ value_of whole * 10 ^ 6
    + value * 10 ^ (6 - places) =
    ap (λ n. value_of whole * 10 ^ 6 + value_of g.digits * 10 ^ (6 - n)) g.places_are
    ∙ ap (λ v. value_of whole * 10 ^ 6 + v * 10 ^ (6 - places)) (sym g.value_is) in (
      f.field,
      begins_with text f.field left rest f.all f.some inside ends r,
      read ∙ ap (λ t. Ok (cond t
          (neg_ℤ (pos (value_of whole * 10 ^ 6 + value_of g.digits * 10 ^ (6 - length g.digits))))
          (pos (value_of whole * 10 ^ 6 + value_of g.digits * 10 ^ (6 - length g.digits))))) f.minus
          ∙ ap (λ n. Ok (cond (is_minus text) (neg_ℤ (pos n)) (pos n))) number,
    )

-- After a point stand the digits that were read.
pub after_point : (text : List ℕ) (v k : ℕ) (rest : List ℕ) → 1 ≤ length text → get_or text 0 0 ≡ 46
    → k ≤ length (take (length text - 1) (drop 1 text))
    → list_all is_digit (take k (take (length text - 1) (drop 1 text))) ≡ true
    → v ≡ value_of (take k (take (length text - 1) (drop 1 text))) → v < 10 ^ k
    → rest ≡ drop k (take (length text - 1) (drop 1 text))
    → BeginsWithFraction text v k rest
after_point text v k rest some is within all value small left =
    let digits = take (length text - 1) (drop 1 text) in
    record {
      point = 46 ∷ [];
      digits = take k digits;
      all = (grind (arith, common_steps))
          ∙ ap (λ xs. 46 ∷ xs) (sym (take-append-drop k digits) ∙ ap (λ xs. take k digits ++ xs) (sym left));
      form = (refl, refl);
      are_digits = all;
      places_are = length-take-le k digits within;
      value_is = value;
      small = small;
    }

-- What was read is the first of the fields.
pub first_amount_is : (fields : List WordRun) (read : Result ℤ NumberFault) → Some read ≡ first_decimal fields
    → (field : WordRun) × (fields ≡ field ∷ drop 1 fields) × (read ≡ decimal_of field.text)
first_amount_is fields read e = grind (arith, common_steps)
