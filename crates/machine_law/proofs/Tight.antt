-- A closed set that nothing enters, that gives the sink all it may, and beyond which the source has given all it may,
-- is tight.
use Rattle.fixed_worth.proofs.Common.{◌≡◌, ℕ, ◌<◌, Bool, true, false, refl, arith, ints, common_steps}
use Rattle.ordered_group.specs.Prelude.{Amount, zero_amount, plus, minus, positive, negative, total, where_so, at_end}
use Rattle.ordered_group.proofs.Order.{positive-negative}
use Rattle.ordered_group.proofs.Totals.{total-same, total-plus, route}
use Rattle.machine_law.proofs.Numbers.{same, equal}

module _ (n m : ℕ) (from to : ℕ → ℕ) (w s t f : ℕ → Amount) (e : ℕ → Bool)
    (from_below : (k : ℕ) → k < m → from k < n)
    (to_below : (k : ℕ) → k < m → to k < n)
    (balanced : (b : ℕ) → b < n → plus (s b) (at_end to f m b) ≡ plus (t b) (at_end from f m b))
    (closed : (k : ℕ) → k < m → e (from k) ≡ true → e (to k) ≡ true)
    (sealed : (k : ℕ) → k < m → e (to k) ≡ true → e (from k) ≡ false → f k ≡ zero_amount)
    (full : (b : ℕ) → b < n → e b ≡ true → t b ≡ negative (w b))
    (given_out : (b : ℕ) → b < n → e b ≡ false → s b ≡ positive (w b)) where
  block_is : (b : ℕ) → b < n → (v : Bool) → e b ≡ v → plus (where_so v (w b)) (where_so v (at_end to f m b)) ≡ plus
      (minus (positive (w b)) (s b)) (where_so v (at_end from f m b))
  block_is b l false i = let c = same (given_out b l i) in equal
      (record { w = omega (arith, ints, c); c = omega (arith, ints, c) })
  block_is b l true i =
      let a = same (positive-negative (w b)) in
      let c = same (full b l i) in
      let d = same (balanced b l) in
      equal (record { w = omega (arith, ints, a, c, d); c = omega (arith, ints, a, c, d) })

  pub tight_sum : total (λ b. where_so (e b) (w b)) n ≡ total (λ b. minus (positive (w b)) (s b)) n
  tight_sum =
      let all = same (total-same _ _ n (λ b l. block_is b l (e b) refl)) in
      let p = same (total-plus (λ b. where_so (e b) (w b)) (λ b. where_so (e b) (at_end to f m b)) n) in
      let q = same (total-plus (λ b. minus (positive (w b)) (s b)) (λ b. where_so (e b) (at_end from f m b)) n) in
      let r = same (route e to f n m to_below) in
      let u = same (route e from f n m from_below) in
      let v = same (total-same (λ k. where_so (e (to k)) (f k)) (λ k. where_so (e (from k)) (f k)) m
      (λ k l. grind (arith, common_steps))) in
      equal (record { w = omega (arith, ints, all, p, q, r, u, v); c = omega (arith, ints, all, p, q, r, u, v) })
