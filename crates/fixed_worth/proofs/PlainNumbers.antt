-- A plain number is what its value prints.
use Rattle.fixed_worth.proofs.Common.{◌≡◌, ℕ, zero, suc, ◌+◌, ◌-◌, ◌/◌, ◌%◌, ◌^◌, ◌<◌, ◌≤◌, Bool, true, eqb, List, []}
use Rattle.fixed_worth.proofs.Common.{◌∷◌, ◌++◌, length, ℤ, pos, negsuc, neg_ℤ, refl, sym, ap, ◌∙◌, subst, arith}
use Rattle.fixed_worth.proofs.Common.{append_assoc, append-nil, length-append, Ok, ◌&&◌, nat_lt, nat_le, FitsSigned}
use Rattle.fixed_worth.proofs.Common.{w128, list_all, decimal, signed_decimal, decimal_digit, decimal_step_wide}
use Rattle.fixed_worth.proofs.Common.{decimal_by_steps_wide, length-decimal-le_wide, nat_tests, ints, pow-le-pow_right}
use Rattle.fixed_worth.proofs.Common.{common_steps}
use Rattle.fixed_worth.specs.Numeral.{is_digit, value_of, digits_of, below, signed_of, begins_above_zero, is_plain}
use Rattle.fixed_worth.specs.Numeral.{plain_of}
use Rattle.fixed_worth.proofs.Digits.{value_of-append}

is_digit_so : (b : ℕ) (r : Bool) → (is_digit b && r) ≡ true → (48 ≤ b) × (b ≤ 57) × (r ≡ true)
is_digit_so b r h = grind (arith, common_steps)

-- digits that are what their value, which is not 0, prints
pub record IsCanonical (ds : List ℕ) : Type 0 where
  pub same : decimal (value_of ds) ≡ ds
  pub some : 0 < value_of ds
  pub small : value_of ds < 10 ^ length ds

with_digit : (ds : List ℕ) (d : ℕ) → 48 ≤ d → d ≤ 57 → length ds ≤ 38 → IsCanonical ds → IsCanonical (ds ++ (d ∷ []))
with_digit ds d low high few h = grind (arith, common_steps, value_of-append, pow-le-pow_right, decimal_step_wide)

grow : (ds es : List ℕ) → list_all is_digit es ≡ true → length ds + length es ≤ 39 → IsCanonical ds
    → IsCanonical (ds ++ es)
grow ds [] all few h = subst IsCanonical (sym (append-nil ds)) h
grow ds (e ∷ es) all few h =
    let q = is_digit_so e (list_all is_digit es) all in
    let l : length (ds ++ (e ∷ [])) ≡ length ds + 1 = length-append ds (e ∷ []) in
    subst IsCanonical (append_assoc ds (e ∷ []) es)
    (grow (ds ++ (e ∷ [])) es q.2 (omega arith) (with_digit ds e q.0 q.1 (omega arith) h))

above_zero : (b : ℕ) → (nat_lt 48 b && nat_le b 57) ≡ true → (48 < b) × (b ≤ 57)
above_zero b h = (grind (arith, nat_tests), grind (arith, nat_tests))

pub printed_of_value : (ds : List ℕ) → begins_above_zero ds ≡ true → list_all is_digit ds ≡ true → length ds ≤ 39
    → IsCanonical ds
printed_of_value [] h all few = cc
printed_of_value (b ∷ bs) h all few =
    let q = above_zero b h in
    let d = is_digit_so b (list_all is_digit bs) all in
    let v : value_of (b ∷ []) ≡ b - 48 = omega arith in
    let e : 48 + (b - 48) ≡ b = omega arith in
    let one : IsCanonical (b ∷ []) = record {
      same = ap decimal v ∙ decimal_digit (b - 48) (omega arith) ∙ ap (λ x. x ∷ []) e;
      some = omega arith;
      small = omega arith;
    } in
    grow (b ∷ []) bs d.2 (omega arith) one

text_of_negative : (bs : List ℕ) (z : ℤ) → is_plain (45 ∷ bs) ≡ true → signed_of (45 ∷ bs) ≡ Ok z
    → 45 ∷ bs ≡ signed_decimal z
unfolding is_plain signed_of
text_of_negative bs z p h = grind (arith, common_steps, printed_of_value)

text_of_zero : (z : ℤ) → signed_of (48 ∷ []) ≡ Ok z → 48 ∷ [] ≡ signed_decimal z
unfolding signed_of
text_of_zero z h = grind (arith, common_steps, decimal_digit)

text_of_positive : (b : ℕ) (bs : List ℕ) (z : ℤ) → begins_above_zero (b ∷ bs) ≡ true → signed_of (b ∷ bs) ≡ Ok z
    → b ∷ bs ≡ signed_decimal z
unfolding signed_of
text_of_positive b bs z p h = grind (arith, common_steps, printed_of_value)

text_by_minus : (b : ℕ) (bs : List ℕ) (z : ℤ) (t : Bool) → eqb b 45 ≡ t → is_plain (b ∷ bs) ≡ true
    → signed_of (b ∷ bs) ≡ Ok z → b ∷ bs ≡ signed_decimal z
unfolding is_plain
text_by_minus b bs z t e p h = grind (arith, common_steps, text_of_negative, text_of_zero, text_of_positive)

-- A plain number has one spelling: what its value prints.
pub one_spelling : (text : List ℕ) (z : ℤ) → plain_of text ≡ Ok z → text ≡ signed_decimal z
unfolding plain_of is_plain
one_spelling text z h = grind (arith, common_steps, text_by_minus)

-- the digits that a number prints
record IsNumeralOf (n : ℕ) (ds : List ℕ) : Type 0 where
  value : value_of ds ≡ n
  digits : list_all is_digit ds ≡ true
  some : 0 < length ds
  first : 0 < n → begins_above_zero ds ≡ true

one_digit : (n : ℕ) → n < 10 → IsNumeralOf n ((48 + n) ∷ [])
one_digit n h = grind (arith, common_steps)

more_digits : (n : ℕ) (ds : List ℕ) → 10 ≤ n → IsNumeralOf (n / 10) ds → IsNumeralOf n (ds ++ ((48 + n % 10) ∷ []))
more_digits n ds h i = grind (arith, common_steps, value_of-append)

numeral_of : (n : ℕ) → n < 10 ^ 64 → IsNumeralOf n (decimal n)
numeral_of n s = decimal_by_steps_wide IsNumeralOf one_digit more_digits n s

digits_read : (n : ℕ) (ds : List ℕ) → IsNumeralOf n ds → length ds ≤ 39 → digits_of ds ≡ Ok n
digits_read n ds i few = grind (arith, common_steps)

below_read : (limit n : ℕ) → n < limit → below limit (Ok n) ≡ Ok n
below_read limit n h = let t : nat_lt n limit ≡ true = grind (arith, nat_tests) in rw t refl

positive_read : (n : ℕ) (ds : List ℕ) → begins_above_zero ds ≡ true → digits_of ds ≡ Ok n → n < 2 ^ 127
    → plain_of ds ≡ Ok (pos n)
unfolding plain_of is_plain signed_of
positive_read n ds h d l = grind (arith, common_steps)

negative_read : (n : ℕ) (ds : List ℕ) → begins_above_zero ds ≡ true → digits_of ds ≡ Ok n → n < 2 ^ 127 + 1
    → plain_of (45 ∷ ds) ≡ Ok (neg_ℤ (pos n))
unfolding plain_of is_plain signed_of
negative_read n ds h d l = rw (h, d, below_read (2 ^ 127 + 1) n l) refl

zero_read : plain_of (48 ∷ []) ≡ Ok (pos 0)
unfolding plain_of is_plain signed_of
zero_read = refl

-- What a number of 128 bits prints is a plain number, and is read as that number.
pub printed_is_plain : (z : ℤ) → FitsSigned w128 z → plain_of (signed_decimal z) ≡ Ok z
printed_is_plain (pos zero) h = ap plain_of (decimal_digit 0 (omega arith)) ∙ zero_read
printed_is_plain (pos (suc m)) h =
    let l : suc m < 2 ^ 127 = omega (arith, ints) in
    let i = numeral_of (suc m) (omega arith) in
    let few = length-decimal-le_wide 39 (suc m) (omega arith) (omega arith) (omega arith) in
    positive_read (suc m) (decimal (suc m)) (i.first (omega arith)) (digits_read (suc m) (decimal (suc m)) i few) l
printed_is_plain (negsuc m) h =
    let l : suc m < 2 ^ 127 + 1 = omega (arith, ints) in
    let i = numeral_of (suc m) (omega arith) in
    let few = length-decimal-le_wide 39 (suc m) (omega arith) (omega arith) (omega arith) in
    negative_read (suc m) (decimal (suc m)) (i.first (omega arith)) (digits_read (suc m) (decimal (suc m)) i few) l
