-- Sums of amounts over a range of numbers.
use Rattle.std.proofs.Common.{◌≡◌, ◌≢◌, ℕ, zero, suc, ◌+◌, ◌<◌, ◌≤◌, inl, inr, refl, ap, sym, ◌∙◌, arith, add-one}
use Rattle.std.proofs.lemmas.Int.{ints}
use Rattle.std.proofs.lemmas.Bool.{cases_eq}
use Rattle.ordered_group.specs.Prelude.{Amount, zero_amount, plus, minus, AtMost, Amount_eq, total}
use Rattle.ordered_group.proofs.Order.{AtMost-refl, AtMost-trans, AtMost-both, AtMost-plus_both}
use Rattle.ordered_group.proofs.Signs.{NonNeg, NonNeg-zero, NonNeg-plus, AtMost-plus}
use Rattle.std.proofs.lemmas.Grind.{common_steps}

pub plus-zero_left : (x : Amount) → plus zero_amount x ≡ x
plus-zero_left x = Amount_eq _ _ (omega (arith, ints)) (omega (arith, ints))

pub plus-zero_right : (x : Amount) → plus x zero_amount ≡ x
plus-zero_right x = Amount_eq _ _ (omega (arith, ints)) (omega (arith, ints))

pub plus-assoc : (x y z : Amount) → plus (plus x y) z ≡ plus x (plus y z)
plus-assoc x y z = Amount_eq _ _ (omega (arith, ints)) (omega (arith, ints))

-- a sum with one more term
pub total_next : (g : ℕ → Amount) (n : ℕ) → total g (n + 1) ≡ plus (total g n) (g n)
total_next g n = rw (add-one n) refl

pub total-same : (g h : ℕ → Amount) (n : ℕ) → ((b : ℕ) → b < n → g b ≡ h b) → total g n ≡ total h n
total-same g h zero e = refl
total-same g h (suc n) e = grind (arith, common_steps, (total-same g h n (λ b k. e b (omega arith))))

pub total-plus : (g h : ℕ → Amount) (n : ℕ) → total (λ b. plus (g b) (h b)) n ≡ plus (total g n) (total h n)
total-plus g h zero = refl
total-plus g h (suc n) =
    let p = total-plus g h n in
    Amount_eq _ _ (omega (arith, ints, ap (λ x. x.w) p)) (omega (arith, ints, ap (λ x. x.c) p))

pub total-minus : (g h : ℕ → Amount) (n : ℕ) → total (λ b. minus (g b) (h b)) n ≡ minus (total g n) (total h n)
total-minus g h zero = refl
total-minus g h (suc n) =
    let p = total-minus g h n in
    Amount_eq _ _ (omega (arith, ints, ap (λ x. x.w) p)) (omega (arith, ints, ap (λ x. x.c) p))

pub total-zero : (n : ℕ) → total (λ b. zero_amount) n ≡ zero_amount
total-zero zero = refl
total-zero (suc n) = let p = total-zero n in Amount_eq _ _ (omega (arith, ints, ap (λ x. x.w) p))
    (omega (arith, ints, ap (λ x. x.c) p))

-- no term is other than zero
pub total-none : (g : ℕ → Amount) (n : ℕ) → ((b : ℕ) → b < n → g b ≡ zero_amount) → total g n ≡ zero_amount
total-none g n h = total-same g (λ b. zero_amount) n h ∙ total-zero n

-- One term of a sum is changed: what the sums differ by is what the terms differ by.
pub total_changed : (g h : ℕ → Amount) (k n : ℕ) → k < n → ((b : ℕ) → b < n → b ≢ k → h b ≡ g b)
    → plus (total h n) (g k) ≡ plus (total g n) (h k)
total_changed g h k zero l e = absurd (omega (arith, l))
total_changed g h k (suc n) l e =
    elim (cases_eq k n) [
      | inl i ↦
          let p = total-same h g n (λ b m. e b (omega (arith, m)) (omega (arith, i, m))) in
          let pw = ap (λ x. x.w) p in let pc = ap (λ x. x.c) p in
          rw i (Amount_eq _ _ (omega (arith, ints, pw)) (omega (arith, ints, pc)))
      | inr d ↦
          let p = total_changed g h k n (omega (arith, l, d)) (λ b m. e b (omega (arith, m))) in
          let q = e n (omega arith) (λ i. d (sym i)) in
          let pw = ap (λ x. x.w) p in let pc = ap (λ x. x.c) p in
          let qw = ap (λ x. x.w) q in let qc = ap (λ x. x.c) q in
          Amount_eq _ _ (omega (arith, ints, pw, qw)) (omega (arith, ints, pc, qc))
    ]

pub total_mono : (g h : ℕ → Amount) (n : ℕ) → ((b : ℕ) → b < n → AtMost (g b) (h b)) → AtMost (total g n) (total h n)
total_mono g h zero e = AtMost-refl zero_amount
total_mono g h (suc n) e = AtMost-plus_both _ _ _ _ (total_mono g h n (λ b k. e b (omega arith))) (e n (omega arith))

pub total_nonneg : (g : ℕ → Amount) (n : ℕ) → ((b : ℕ) → b < n → NonNeg (g b)) → NonNeg (total g n)
total_nonneg g zero e = NonNeg-zero
total_nonneg g (suc n) e = NonNeg-plus _ _ (total_nonneg g n (λ b k. e b (omega arith))) (e n (omega arith))

-- the first terms of a sum without negative terms make at most the sum
pub total_first : (g : ℕ → Amount) (k n : ℕ) → k ≤ n → ((b : ℕ) → b < n → NonNeg (g b)) → AtMost (total g k) (total g n)
total_first g k zero l e = let i : k ≡ 0 = omega (arith, l) in rw i (AtMost-refl zero_amount)
total_first g k (suc n) l e =
    elim (cases_eq k (suc n)) [
      | inl i ↦ rw i (AtMost-refl (total g (suc n)))
      | inr d ↦ AtMost-trans _ _ _ (total_first g k n (omega (arith, l, d)) (λ b m. e b (omega (arith, m))))
          (AtMost-plus (total g n) (g n) (e n (omega arith)))
    ]

-- and so does each term of it
pub total_term : (g : ℕ → Amount) (k n : ℕ) → k < n → ((b : ℕ) → b < n → NonNeg (g b)) → AtMost (g k) (total g n)
total_term g k n l e =
    let s = total_nonneg g k (λ b m. e b (omega (arith, m, l))) in
    let f = total_first g (suc k) n (omega (arith, l)) e in
    record { worths = omega (arith, ints, s, f); counts = λ i. omega (arith, ints, s, f, i) }

-- where such a sum is zero, each term is
pub total_none_each : (g : ℕ → Amount) (n : ℕ) → ((b : ℕ) → b < n → NonNeg (g b)) → total g n ≡ zero_amount → (k : ℕ)
    → k < n → g k ≡ zero_amount
total_none_each g n e h k l = let t = total_term g k n l e in AtMost-both (g k) zero_amount (rw h at t) (e k l)
