-- Tonnes by way add up to the tonnes of the treated blocks.
use Rattle.fixed_worth.proofs.Common.{◌≡◌, ℕ, zero, suc, ◌<◌, ℤ, pos, ◌+ℤ◌, Bool, true, false, cond, ◌==◌, ◌&&◌, Option}
use Rattle.fixed_worth.proofs.Common.{Some, None, refl, ◌∙◌, arith, inl, inr, ints, cases_lt}
use Rattle.ordered_group.specs.Sets.{worth_in}
use Rattle.bench_report.specs.WayTonnes.{goes_way, is_treated}

none_add : (v : ℕ → ℤ) (n : ℕ) → ((i : ℕ) → i < n → v i ≡ pos 0) → worth_in v (λ i. true) n ≡ pos 0
none_add v zero h = refl
none_add v (suc n) h = omega (arith, ints, none_add v n (λ i l. h i (omega (arith, l))), h n (omega arith))

apart : (f g : ℕ → ℤ) (n : ℕ) → worth_in (λ i. f i +ℤ g i) (λ i. true) n ≡ worth_in f (λ i. true) n +ℤ worth_in g
    (λ i. true) n
apart f g zero = refl
apart f g (suc n) = omega (arith, ints, apart f g n)

other_step : (s x : ℤ) (t : Bool) → t ≡ false → s +ℤ cond t x (pos 0) ≡ s
other_step s x true h = absurd cc
other_step s x false h = omega (arith, ints)

same_step : (s x : ℤ) (t : Bool) → t ≡ true → s ≡ pos 0 → s +ℤ cond t x (pos 0) ≡ x
same_step s x true h z = omega (arith, ints, z)
same_step s x false h z = absurd cc

differ : (j i : ℕ) → i < j → (j == i) ≡ false
differ j i l = grind arith

nothing : (x : ℤ) (t : Bool) → t ≡ false → cond t x (pos 0) ≡ pos 0
nothing x true h = absurd cc
nothing x false h = refl

-- a block that goes the j-th of n ways is counted once
here : (x : ℤ) (j n : ℕ) → j < n → worth_in (λ i. cond (j == i) x (pos 0)) (λ i. true) n ≡ x
here x j zero l = absurd (omega (arith, l))
here x j (suc n) l = elim (cases_lt j n) [
  | inl k ↦ other_step (worth_in (λ i. cond (j == i) x (pos 0)) (λ i. true) n) x (j == n) (grind (arith, k))
      ∙ here x j n k
  | inr k ↦ same_step (worth_in (λ i. cond (j == i) x (pos 0)) (λ i. true) n) x (j == n) (grind (arith, k, l))
      (none_add (λ i. cond (j == i) x (pos 0)) n (λ i o. nothing x (j == i) (differ j i (omega (arith, o, k)))))
]

one_way : (a : Bool) (x : ℤ) (w : Option ℕ) (n : ℕ) → ((j : ℕ) → w ≡ Some j → j < n)
    → worth_in (λ i. cond (a && goes_way w i) x (pos 0)) (λ i. true) n ≡ cond (a && is_treated w) x (pos 0)
one_way false x w n h = none_add (λ i. cond (false && goes_way w i) x (pos 0)) n (λ i l. refl)
one_way true x None n h = none_add (λ i. cond (true && goes_way None i) x (pos 0)) n (λ i l. refl)
one_way true x (Some j) n h = here x j n (h j refl)

pub add_up : (t : ℕ → ℤ) (at : ℕ → Bool) (way : ℕ → Option ℕ) (n blocks : ℕ)
    → ((b i : ℕ) → b < blocks → way b ≡ Some i → i < n)
    → worth_in (λ i. worth_in t (λ b. at b && goes_way (way b) i) blocks) (λ i. true) n ≡ worth_in t
    (λ b. at b && is_treated (way b)) blocks
add_up t at way n zero h = none_add (λ i. pos 0) n (λ i l. refl)
add_up t at way n (suc c) h =
    apart (λ i. worth_in t (λ b. at b && goes_way (way b) i) c) (λ i. cond (at c && goes_way (way c) i) (t c) (pos 0)) n
    ∙ rw (
      add_up t at way n c (λ b i l e. h b i (omega (arith, l)) e),
      one_way (at c) (t c) (way c) n
          (λ j e. h c j (omega arith) e),
    ) refl
