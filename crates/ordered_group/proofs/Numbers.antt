-- Sums by a list of the numbers that pass a test.
use Rattle.std.proofs.Common.{◌≡◌, ℕ, zero, suc, ◌<◌, ◌≤◌, Bool, true, false, cond, ◌==◌, List, [], ◌∷◌, ◌++◌, length}
use Rattle.std.proofs.Common.{get_or, inl, inr, sym, refl, ap, ◌∙◌, arith}
use Rattle.std.proofs.lemmas.List.{get_or_append_left, length-append}
use Rattle.std.proofs.lemmas.Bool.{cases_eq}
use Rattle.ordered_group.specs.Prelude.{Amount, plus, total, where_so, at_end}
use Rattle.ordered_group.proofs.Totals.Ranges.{total-same, plus-zero_right}
use Rattle.std.proofs.lemmas.Grind.{common_steps}

-- the sum of f over the first i of a list of numbers
abbrev pub over : (ℕ → Amount) → List ℕ → ℕ → Amount
over f ks i = total (λ j. f (get_or ks j 0)) i

pub over-push : (f : ℕ → Amount) (ks : List ℕ) (k : ℕ) → over f (ks ++ k ∷ []) (length (ks ++ k ∷ [])) ≡ plus
    (over f ks (length ks)) (f k)
over-push f ks k = grind (arith, common_steps, total-same)

one_more : (f : ℕ → Amount) (ks : List ℕ) (k : ℕ) (t : Bool) (x : Amount) → over f ks (length ks) ≡ x
    → over f (cond t (ks ++ k ∷ []) ks) (length (cond t (ks ++ k ∷ []) ks)) ≡ plus x (where_so t (f k))
one_more f ks k true x h = over-push f ks k ∙ rw h refl
one_more f ks k false x h = h ∙ sym (plus-zero_right x)

keeps_first : (ks : List ℕ) (k : ℕ) (t : Bool) (i : ℕ) → i < length ks → (i < length (cond t (ks ++ k ∷ []) ks))
    × (get_or (cond t (ks ++ k ∷ []) ks) i 0 ≡ get_or ks i 0)
keeps_first ks k true i h = (omega (arith, length-append ks (k ∷ []), h), get_or_append_left ks (k ∷ []) 0 i h)
keeps_first ks k false i h = (h, refl)

-- `numbers m` is the ascending list of the numbers below m that pass the test, however it is written
module _ (test : ℕ → Bool) (numbers : ℕ → List ℕ) (none : numbers 0 ≡ [])
    (next : (m : ℕ) → numbers (suc m) ≡ cond (test m) (numbers m ++ m ∷ []) (numbers m)) where
  -- the sum over the list is the sum over the numbers that pass
  pub over-passing : (f : ℕ → Amount) (m : ℕ)
      → over f (numbers m) (length (numbers m)) ≡ total (λ k. where_so (test k) (f k)) m
  over-passing f zero = rw none refl
  over-passing f (suc m) = rw (next m) (one_more f (numbers m) m (test m) _ (over-passing f m))

  -- the list for k numbers is the first part of that for m
  pub passing_first : (k m : ℕ) → k ≤ m → (i : ℕ) → i < length (numbers k) → (i < length (numbers m))
      × (get_or (numbers m) i 0 ≡ get_or (numbers k) i 0)
  passing_first k zero l i h = let e : k ≡ 0 = omega (arith, l) in (rw e at h, rw e refl)
  passing_first k (suc m) l i h =
      elim (cases_eq k (suc m)) [
        | inl e ↦ (rw e at h, rw e refl)
        | inr d ↦
            let p = passing_first k m (omega (arith, l, d)) i h in
            let q = keeps_first (numbers m) m (test m) i p.0 in
            (rw (next m) q.0, rw (next m) (q.1 ∙ p.1))
      ]

  -- so the sum over as many of the longer list is the sum over the numbers below k that pass
  pub over-first : (f : ℕ → Amount) (k m : ℕ) → k ≤ m
      → over f (numbers m) (length (numbers k)) ≡ total (λ j. where_so (test j) (f j)) k
  over-first f k m l =
      total-same (λ j. f (get_or (numbers m) j 0)) (λ j. f (get_or (numbers k) j 0)) (length (numbers k))
      (λ i h. ap f (passing_first k m l i h).1)
      ∙ over-passing f k

-- the sum over the list of the pairs that end at b is the sum over those that end there
pub over-numbers : (end : ℕ → ℕ) (b : ℕ) (numbers : ℕ → List ℕ) → numbers 0 ≡ []
    → ((m : ℕ) → numbers (suc m) ≡ cond (end m == b) (numbers m ++ m ∷ []) (numbers m)) → (f : ℕ → Amount) (m : ℕ)
    → over f (numbers m) (length (numbers m)) ≡ at_end end f m b
over-numbers end b numbers none next f m = over-passing (λ k. end k == b) numbers none next f m
