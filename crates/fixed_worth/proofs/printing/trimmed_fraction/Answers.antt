use Rattle.fixed_worth.proofs.Common.{arith, ◌∙◌, ◌≡◌, ℕ, zero, suc, ◌+◌, ◌-◌, ◌/◌, ◌%◌, ◌^◌, ◌<◌, ◌≤◌, false, eqb}
use Rattle.fixed_worth.proofs.Common.{List, [], ◌∷◌, ◌++◌, refl, sym, ap, common_steps, decimal_digit}
use Rattle.fixed_worth.proofs.Common.{decimal_step_wide}
use Rattle.fixed_worth.proofs.printing.trimmed_fraction.Goals as goal
use Rattle.fixed_worth.proofs.Powers.{ten_more}
use Rattle.fixed_worth.specs.Printed.{fixed_width, digit_before, without_trailing_zeros}

zero_dropped : (xs : List ℕ) → without_trailing_zeros (xs ++ (48 ∷ [])) ≡ without_trailing_zeros xs
zero_dropped [] = refl
zero_dropped (x ∷ xs) = ap (digit_before x) (zero_dropped xs)

before_more : (x d : ℕ) (xs : List ℕ) → digit_before x (xs ++ (d ∷ [])) ≡ x ∷ (xs ++ (d ∷ []))
before_more x d [] = refl
before_more x d (y ∷ ys) = refl

digit_kept : (xs : List ℕ) (d : ℕ) → eqb d 48 ≡ false → without_trailing_zeros (xs ++ (d ∷ [])) ≡ xs ++ (d ∷ [])
digit_kept [] d e = rw e refl
digit_kept (x ∷ xs) d e = ap (digit_before x) (digit_kept xs d e) ∙ before_more x d xs

-- a number of several digits: the digits in front, and the last one
last_digit : (w n : ℕ) → 10 ≤ n → n < 10 ^ 64 → fixed_width w n ≡ fixed_width (w - 1) (n / 10) ++ ((48 + n % 10) ∷ [])
last_digit w n h s = grind (arith, common_steps, decimal_step_wide)

last_zero_dropped : (w n : ℕ) → 0 < n → n < 10 ^ 64 → n % 10 ≡ 0
    → without_trailing_zeros (fixed_width w n) ≡ without_trailing_zeros (fixed_width (w - 1) (n / 10))
last_zero_dropped w n h s z =
    let d : 48 + n % 10 ≡ 48 = omega arith in
    grind (arith, common_steps, zero_dropped, last_digit)

kept_by : (w n : ℕ) (xs : List ℕ) (d : ℕ) → fixed_width w n ≡ xs ++ (d ∷ []) → eqb d 48 ≡ false
    → without_trailing_zeros (fixed_width w n) ≡ fixed_width w n
kept_by w n xs d e f = ap without_trailing_zeros e ∙ digit_kept xs d f ∙ sym e

last_digit_kept : (w n : ℕ) → n < 10 ^ 64 → 0 < n % 10 → without_trailing_zeros (fixed_width w n) ≡ fixed_width w n
last_digit_kept w n s h = grind (arith, common_steps, kept_by, decimal_digit, last_digit)

-- a tenth of a fraction has one place less
has_place : (w n : ℕ) → 10 ≤ n → n < 10 ^ w → 0 < w
has_place zero n h s = omega arith
has_place (suc w) n h s = omega arith

tenth_below : (w n : ℕ) → 10 ≤ n → n < 10 ^ w → n / 10 < 10 ^ (w - 1)
tenth_below w n h s =
    let e : w ≡ (w - 1) + 1 = omega (arith, has_place w n h s) in
    grind (arith, common_steps, has_place, ten_more)

pub loop-digits-preserved : goal.loop-digits-preserved
loop-digits-preserved c = grind (arith, common_steps, tenth_below, last_zero_dropped)

pub returns-clause-same : goal.returns-clause-same
returns-clause-same c = c.loop-digits.invariant.same
    ∙ last_digit_kept c.loop-digits.width c.loop-digits.digits c.loop-digits.invariant.small (omega arith)
