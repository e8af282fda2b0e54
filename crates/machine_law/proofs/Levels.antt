-- Of more levels than blocks, one has no block.
use Rattle.fixed_worth.proofs.Common.{◌≡◌, ◌≢◌, ℕ, zero, suc, ◌+◌, ◌<◌, ◌≤◌, ◌⊎◌, inl, inr, ap, sym, ◌∙◌, arith}
use Rattle.fixed_worth.proofs.Common.{cases_eq}
use Rattle.machine_law.specs.States.{with_value_at}
use Rattle.machine_law.proofs.Points.{with_value_at-same, with_value_at-other}

-- a block below n stands at this level, or none does
find_at : (n : ℕ) (h : ℕ → ℕ) (l : ℕ) → ((b : ℕ) × (b < n) × (h b ≡ l)) ⊎ ((b : ℕ) → b < n → h b ≢ l)
find_at zero h l = inr (λ b k. absurd (omega (arith, k)))
find_at (suc n) h l = elim (cases_eq (h n) l) [
  | inl e ↦ inl (n, omega arith, e)
  | inr ne ↦ elim (find_at n h l) [
    | inl f ↦ inl (f.0, omega (arith, f.1), f.2)
    | inr g ↦ inr (λ b k. elim (cases_eq b n)
        [ inl i ↦ (λ (q : h b ≡ l). ne (sym (ap h i) ∙ q)) | inr j ↦ g b (omega arith) ])
  ]
]

-- fewer blocks than levels leave a level empty
empty_level : (k n : ℕ) (h : ℕ → ℕ) → n < k → (l : ℕ) × (l < k) × ((b : ℕ) → b < n → h b ≢ l)
empty_level zero n h less = absurd (omega (arith, less))
empty_level (suc k) zero h less = (0, omega arith, λ b i. absurd (omega (arith, i)))
empty_level (suc k) (suc n) h less = elim (find_at (suc n) h k) [
  | inl f ↦
      -- the block at the highest level takes the place of the last one
      let g : ℕ → ℕ = with_value_at h f.0 (h n) in
      let r = empty_level k n g (omega (arith, less)) in
      let lr = r.1 in
      let lf = f.1 in (
        r.0,
        omega (arith, lr),
        λ b i. elim (cases_eq b f.0) [
          | inl e ↦ (λ (q : h b ≡ r.0). let z : r.0 ≡ k = sym q ∙ (ap h e ∙ f.2) in absurd (omega (arith, z, lr)))
          | inr ne ↦ elim (cases_eq b n) [
            | inl at ↦ (λ (q : h b ≡ r.0). r.2 f.0 (omega (arith, lf, ne, at)) (with_value_at-same h f.0 (h n)
                ∙ (sym (ap h at) ∙ q)))
            | inr apart ↦ (λ (q : h b ≡ r.0). r.2 b (omega (arith, i, apart)) (with_value_at-other h f.0 (h n) b ne
                ∙ q))
          ]
        ],
      )
  | inr g ↦ (k, omega arith, g)
]

-- so one from 1 to n + 1 is empty
pub empty_above : (n : ℕ) (h : ℕ → ℕ) → (l : ℕ) × (1 ≤ l) × (l ≤ n + 1) × ((b : ℕ) → b < n → h b ≢ l)
empty_above n h =
    let g : ℕ → ℕ = with_value_at h n 0 in
    let r = empty_level (n + 2) (n + 1) g (omega arith) in
    let top = r.2 n (omega arith) in
    let lr = r.1 in (
      r.0,
      elim (cases_eq r.0 0)
          [ inl e ↦ absurd (top (with_value_at-same h n 0 ∙ sym e)) | inr ne ↦ omega (arith, ne) ],
      omega
          (arith, lr),
      λ b i q. r.2 b (omega (arith, i)) (with_value_at-other h n 0 b (omega (arith, i)) ∙ q),
    )
