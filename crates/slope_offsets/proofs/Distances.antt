-- How far the offsets of a cone's level reach.
use Rattle.fixed_worth.proofs.Common.{◌≡◌, ℕ, ◌+◌, ◌*◌, ◌/◌, ◌^◌, ◌<◌, ◌≤◌, inl, inr, pos, sym, ap, subst, ◌∙◌, arith}
use Rattle.fixed_worth.proofs.Common.{unsigned_abs, mul-le, mul-lt, cases_lt, mul_comm, mul-mul-mul_comm}
use Rattle.fixed_worth.proofs.Common.{mul-le-mul_left, div-lt_iff_lt-mul, common_steps}
use Rattle.slope_offsets.specs.Prelude.{Offset, IsNear, square, IsLevel}

-- what the test of a distance computes has 64 bits
pub distance_fits : (r a b : ℕ) → r ≤ 1000 → a ≤ 1000000 → b ≤ 1000000 → r * r * (a * a + b * b) < 2 ^ 64
distance_fits r a b h k l =
    let rr : r * r ≤ 1000000 = mul-le r r 1000 1000 h h in
    let aa : a * a ≤ 1000000000000 = mul-le a a 1000000 1000000 k k in
    let bb : b * b ≤ 1000000000000 = mul-le b b 1000000 1000000 l l in
    let all : r * r * (a * a + b * b) ≤ 2000000000000000000 = mul-le (r * r) (a * a + b * b) 1000000 2000000000000 rr
    (omega arith) in
    omega arith

-- a side of a right triangle is at most its longest side
within : (k n r a b : ℕ) → 1 ≤ r → r * r * (a * a + b * b) ≤ k * k * (n * n) → b ≤ k * n / r
within k n r a b s h = elim (cases_lt (k * n / r) b) [
  | inl far ↦
      let wide : k * n < b * r = (div-lt_iff_lt-mul {k = r} {x = k * n} {y = b} s).0 far in
      let squares : (k * n) * (k * n) < (b * r) * (b * r) = mul-lt (k * n) (k * n) (b * r) (b * r) wide wide in
      let left : k * k * (n * n) ≡ (k * n) * (k * n) = mul-mul-mul_comm k k n n in
      let right : r * r * (b * b) ≡ (b * r) * (b * r) = mul_comm (r * r) (b * b) ∙ mul-mul-mul_comm b b r r in
      let part : r * r * (b * b) ≤ r * r * (a * a + b * b) = mul-le-mul_left (r * r) (omega arith) in
      absurd (omega (arith, squares, left, right, part, h))
  | inr near ↦ near
]

level_square : (o : Offset) (k : ℕ) → o.2 ≡ pos k → square o.2 ≡ k * k
level_square o k e = ap square e

pub near_second : (k reach run rise : ℕ) (o : Offset) → IsLevel k reach run rise → IsNear run rise o → o.2 ≡ pos k
    → unsigned_abs o.1 ≤ reach
near_second k reach run rise o l h e = grind (arith, common_steps, unsigned_abs, within, level_square)

pub near_first : (k reach run rise : ℕ) (o : Offset) → IsLevel k reach run rise → IsNear run rise o → o.2 ≡ pos k
    → unsigned_abs o.0 ≤ reach
near_first k reach run rise o l h e =
    let P : ℕ → Type 0 = λ x. rise * rise * (square o.0 + square o.1) ≤ x * (run * run) in
    let Q : ℕ → Type 0 = λ x. unsigned_abs o.0 ≤ x in
    let turned : rise * rise * (square o.1 + square o.0) ≤ k * k * (run * run) =
    let R : ℕ → Type 0 = λ x. rise * rise * x ≤ k * k * (run * run) in
    subst R (omega arith) (subst P (level_square o k e) h) in
    subst Q (sym l.furthest) (within k run rise (unsigned_abs o.1) (unsigned_abs o.0) l.some_rise turned)
