-- Powers of ten.
use Rattle.fixed_worth.proofs.Common.{◌≡◌, ℕ, suc, ◌+◌, ◌-◌, ◌*◌, ◌/◌, ◌%◌, ◌^◌, ◌<◌, ◌≤◌, arith, lit<, pow-add}
use Rattle.fixed_worth.proofs.Common.{pow-succ', one-le-pow, mul-le-mul_left, pow-le-pow_right, mul-div_cancel_left}
use Rattle.fixed_worth.proofs.Common.{div-div-eq-div-mul, div-mul-add, common_steps}
use Rattle.fixed_worth.specs.Decimal.{rounded_of}

pub ten_positive : (k : ℕ) → 1 ≤ 10 ^ k
ten_positive k = one-le-pow k 10 (lit< tt)

pub ten_more : (k : ℕ) → 10 ^ (k + 1) ≡ 10 * 10 ^ k
ten_more k = let e : k + 1 ≡ suc k = omega arith in rw e (pow-succ' 10 k)

pub ten_most : (k : ℕ) → k ≤ 37 → 10 ^ k ≤ 10 ^ 37
ten_most k h = pow-le-pow_right {n = 10} (lit< tt) h

pub ten_least : (k : ℕ) → 37 < k → 10 ^ 38 ≤ 10 ^ k
ten_least k h = pow-le-pow_right {n = 10} (lit< tt) h

at_most_product : (v p : ℕ) → 1 ≤ p → v ≤ v * p
at_most_product v p h = let f : v * 1 ≤ v * p = mul-le-mul_left v h in omega arith

spread : (v p : ℕ) → (v * 10) * p ≡ v * (10 * p)
spread v p = omega arith

regroup : (m a p : ℕ) → 2 * (m * (a * p)) + p ≡ (m * a) * (2 * p) + p
regroup m a p = omega arith

pub shifted : (v i k : ℕ) → i < k → (v * 10) * 10 ^ (k - (i + 1)) ≡ v * 10 ^ (k - i)
shifted v i k h =
    let e : k - i ≡ (k - (i + 1)) + 1 = omega arith in
    grind (arith, common_steps, spread, ten_more)

pub too_large : (v j w : ℕ) → v * 10 ^ j ≡ w → 10 ^ 18 < v → w ≤ 10 ^ 18 → ⊥
too_large v j w e h s = let f = at_most_product v (10 ^ j) (ten_positive j) in omega (arith, f)

pub rounds_up : (m up down : ℕ) → down ≤ up → rounded_of m up down ≡ m * 10 ^ (up - down)
unfolding rounded_of
rounds_up m up down h = grind (arith, common_steps, pow-add, ten_positive, regroup, div-mul-add)

pub rounds_down : (m up down : ℕ) → up < down
    → rounded_of m up down ≡ (2 * m + 10 ^ (down - up)) / (2 * 10 ^ (down - up))
unfolding rounded_of
rounds_down m up down h = grind (
  arith,
  common_steps,
  (10 ^ up),
  (10 ^ (down - up)),
  (ten_positive up),
  (pow-add 10 up (down - up)),
  (div-div-eq-div-mul ((10 ^ up) * (2 * m + (10 ^ (down - up)))) (10 ^ up) (2 * (10 ^ (down - up)))),
  (mul-div_cancel_left (2 * m + (10 ^ (down - up))) (ten_positive up)),
)

pub rounds_away : (m k : ℕ) → m < 10 ^ 36 → 37 < k → (2 * m + 10 ^ k) / (2 * 10 ^ k) ≡ 0
rounds_away m k h j = grind (arith, common_steps, ten_least)

-- what is left below a tenth power of at most nine places
pub rest_below : (n k : ℕ) → n % 10 ^ k < 10 ^ k
rest_below n k = let t = ten_positive k in omega arith

pub rest_small : (n k : ℕ) → k ≤ 9 → n % 10 ^ k < 2 ^ 32
rest_small n k h = grind (arith, common_steps, pow-le-pow_right, rest_below)
