-- Values of digits.
use Rattle.fixed_worth.proofs.Common.{◌≡◌, ℕ, suc, ◌+◌, ◌-◌, ◌*◌, ◌^◌, ◌<◌, ◌≤◌, Bool, true, List, [], ◌∷◌, length}
use Rattle.fixed_worth.proofs.Common.{drop, get_or, refl, sym, ◌∙◌, subst, arith, drop-cons, lit<, ◌++◌, pow-add}
use Rattle.fixed_worth.proofs.Common.{length-append, drop_all, pow-succ', one-le-pow, mul-le-mul_left, pow-le-pow_right}
use Rattle.fixed_worth.proofs.Common.{◌&&◌, list_all, common_steps, and_from}
use Rattle.fixed_worth.specs.Numeral.{is_digit, value_of}

spread : (v d p r : ℕ) → v * (10 * p) + (d * p + r) ≡ (v * 10 + d) * p + r
spread v d p r = omega arith

carry : (v d n r : ℕ) → v * 10 ^ suc n + (d * 10 ^ n + r) ≡ (v * 10 + d) * 10 ^ n + r
carry v d n r = rw (pow-succ' 10 n) (spread v d (10 ^ n) r)

pub value_step : (v i : ℕ) (bs : List ℕ) → i < length bs
    → v * 10 ^ length (drop i bs) + value_of (drop i bs) ≡ (v * 10 + (get_or bs i 0 - 48)) * 10 ^ length
    (drop (i + 1) bs) + value_of (drop (i + 1) bs)
value_step v i bs h = grind (
  arith,
  common_steps,
  (drop-cons bs i 0 h),
  (carry v (get_or bs i 0 - 48) (length (drop (suc i) bs)) (value_of (drop (suc i) bs))),
)

small : (m a p r : ℕ) → 1 ≤ p → a * p + r < m → a < m
small m a p r e h = let f : a * 1 ≤ a * p = mul-le-mul_left a e in omega arith

below_from : (m a n r : ℕ) → a * 10 ^ n + r < m → a < m
below_from m a n r h = small m a (10 ^ n) r (one-le-pow n 10 (lit< tt)) h

pub overflows : (v i w : ℕ) (bs : List ℕ) → i < length bs → v * 10 ^ length (drop i bs) + value_of (drop i bs) ≡ w
    → (v * 10 + (get_or bs i 0 - 48) < 2 ^ 128 → ⊥) → w < 2 ^ 128 → ⊥
overflows v i w bs h e none some =
    let d = get_or bs i 0 - 48 in
    let k = length (drop (i + 1) bs) in
    let r = value_of (drop (i + 1) bs) in
    let f : (v * 10 + d) * 10 ^ k + r ≡ w = sym (value_step v i bs h) ∙ e in
    none (below_from (2 ^ 128) (v * 10 + d) k r (subst (λ (x : ℕ). x < 2 ^ 128) (sym f) some))

pub carried : (v u i w : ℕ) (bs : List ℕ) → i < length bs → v * 10 ^ length (drop i bs) + value_of (drop i bs) ≡ w
    → u ≡ v * 10 + (get_or bs i 0 - 48) → u * 10 ^ length (drop (i + 1) bs) + value_of (drop (i + 1) bs) ≡ w
carried v u i w bs h e f = rw f (sym (value_step v i bs h) ∙ e)

pub finished : (v i w : ℕ) (bs : List ℕ) → length bs ≤ i → v * 10 ^ length (drop i bs) + value_of (drop i bs) ≡ w
    → v ≡ w
finished v i w bs h e = grind (arith, common_steps, drop_all)

joins : (d p q x y : ℕ) → d * (p * q) + (x * q + y) ≡ (d * p + x) * q + y
joins d p q x y = omega arith

pub value_of-append : (xs ys : List ℕ) → value_of (xs ++ ys) ≡ value_of xs * 10 ^ length ys + value_of ys
value_of-append [] ys = omega arith
value_of-append (x ∷ xs) ys = grind (arith, common_steps, length-append, pow-add, joins, (value_of-append xs ys))

-- what is too large at the front is too large
pub front_too_large : (xs ys : List ℕ) → (value_of xs < 2 ^ 128 → ⊥) → value_of (xs ++ ys) < 2 ^ 128 → ⊥
front_too_large xs ys h s = h
    (below_from (2 ^ 128) (value_of xs) (length ys) (value_of ys)
    (subst (λ (x : ℕ). x < 2 ^ 128) (value_of-append xs ys) s))

-- Digits stand for less than the next power of ten.
digit_at_most : (b : ℕ) (r : Bool) → (is_digit b && r) ≡ true → (b - 48 ≤ 9) × (r ≡ true)
digit_at_most b r h = grind (arith, common_steps)

spaced : (d p v : ℕ) → d ≤ 9 → v < p → d * p + v < 10 * p
spaced d p v h j = let f : p * d ≤ p * 9 = mul-le-mul_left p h in omega arith

pub value_below : (bs : List ℕ) → list_all is_digit bs ≡ true → value_of bs < 10 ^ length bs
value_below [] h = omega arith
value_below (b ∷ bs) h = grind (
  arith,
  common_steps,
  (digit_at_most b (list_all is_digit bs) h),
  (pow-succ' 10 (length bs)),
  (spaced (b - 48) (10 ^ length bs) (value_of bs) (digit_at_most b (list_all is_digit bs) h).0
      (value_below bs (digit_at_most b (list_all is_digit bs) h).1)),
  (value_below bs (digit_at_most b (list_all is_digit bs) h).1),
)

pub short_value : (xs ys : List ℕ) → list_all is_digit (xs ++ ys) ≡ true → length xs + length ys ≤ 36
    → value_of (xs ++ ys) < 10 ^ 36
short_value xs ys h j = grind (arith, common_steps, value_below, pow-le-pow_right)

-- one more digit makes a number less than the next power of ten
pub next_below : (v i b : ℕ) → v < 10 ^ i → is_digit b ≡ true → v * 10 + (b - 48) < 10 ^ (i + 1)
next_below v i b h t = grind (arith, common_steps)

-- and so does each power on the way to the nineteenth fit
pub power_fits : (i : ℕ) → i ≤ 19 → 10 ^ i ≤ 10 ^ 19
power_fits i h = pow-le-pow_right {n = 10} (lit< tt) h

-- all of a list passes where each place does
pub all_digits : (bs : List ℕ) → ((k : ℕ) → k < length bs → is_digit (get_or bs k 0) ≡ true)
    → list_all is_digit bs ≡ true
all_digits [] h = refl
all_digits (b ∷ bs) h = and_from (is_digit b) (list_all is_digit bs) (h 0 (omega arith))
    (all_digits bs (λ k l. h (suc k) (omega arith)))
