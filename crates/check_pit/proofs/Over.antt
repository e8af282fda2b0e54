-- Sums over the index of the pairs, and the prefix sums over all pairs that they stand for.
use Rattle.fixed_worth.proofs.Common.{◌≡◌, ℕ, ◌+◌, ◌<◌, ◌≤◌, ◌==◌, List, length, get_or, sym, refl, ap, subst, ◌∙◌}
use Rattle.fixed_worth.proofs.Common.{arith, below_more, eq-eqb, eqb-true, ints, common_steps}
use Rattle.ordered_group.specs.Prelude.{Amount, zero_amount, plus, FitsPair, Amount_eq, at_end}
use Rattle.check_pit.specs.Fits.{EndFits, EndOverflows}
use Rattle.ordered_group.proofs.Numbers.{over, over-numbers, over-first}
use Rattle.ordered_group.proofs.Steps.{total_step, fits_there}
use Rattle.prec_file.specs.Rests.{numbers}
use Rattle.prec_file.proofs.Passing.{passing_at, passing_here, passing_after}

-- the sum over the pairs that end at b, by their list
all_over : (end : ℕ → ℕ) (f : ℕ → Amount) (m b : ℕ) → over f (numbers end b m) (length (numbers end b m))
    ≡ at_end end f m b
all_over end f m b = over-numbers end b (numbers end b) refl (λ k. refl) f m

-- the sum over the pairs before k that end at b, by the first places of the list of all that end there
first_over : (end : ℕ → ℕ) (f : ℕ → Amount) (m b k : ℕ) → k ≤ m → over f (numbers end b m) (length (numbers end b k))
    ≡ at_end end f k b
first_over end f m b k h = over-first (λ j. end j == b) (numbers end b) refl (λ i. refl) f k m h

-- each sum on the way fits: of start, and f at the first n of a list of numbers
abbrev pub ListFits : Amount → (ℕ → Amount) → List ℕ → ℕ → Type 0
ListFits start f ks n = (i : ℕ) → i < n → FitsPair (plus (plus start (over f ks i)) (f (get_or ks i 0)))

pub fits_from_list : (start : Amount) (end : ℕ → ℕ) (f : ℕ → Amount) (b m : ℕ)
    → ListFits start f (numbers end b m) (length (numbers end b m)) → EndFits start end f b m
fits_from_list start end f b m h = λ k l e.
    let t = eq-eqb (end k) b e in
    let i = length (numbers end b k) in
    let p = h i (passing_after (λ j. end j == b) k m l t) in
    fits_there (plus start (over f (numbers end b m) i)) (f (get_or (numbers end b m) i 0))
    (plus start (at_end end f k b)) (f k)
    (ap (plus start) (first_over end f m b k (omega arith))) (ap f (sym (passing_here (λ j. end j == b) k m l t))) p

pub overflows_from_list : (start : Amount) (end : ℕ → ℕ) (f : ℕ → Amount) (b m i : ℕ) → i < length (numbers end b m)
    → ¬ (FitsPair (plus (plus start (over f (numbers end b m) i)) (f (get_or (numbers end b m) i 0))))
    → EndOverflows start end f b m
overflows_from_list start end f b m i l h =
    let k = get_or (numbers end b m) i 0 in
    let p = passing_at (λ j. end j == b) m i l in
    let below : k < m = p.below in
    let s : plus start (at_end end f k b) ≡ plus start (over f (numbers end b m) i) =
    ap (plus start) (sym (first_over end f m b k (omega arith)) ∙ ap (λ j. over f (numbers end b m) j) p.place) in (
      k,
      below,
      eqb-true (end k) b p.passes,
      λ q. h
          (fits_there (plus start (at_end end f k b)) (f k) (plus start (over f (numbers end b m) i)) (f k) s refl q),
    )

-- a step of a sum over a list
pub sum_more : (start : Amount) (f : ℕ → Amount) (ks : List ℕ) (i : ℕ) (old new x : Amount)
    → old ≡ plus start (over f ks i) → f (get_or ks i 0) ≡ x → new ≡ plus old x → new ≡ plus start (over f ks (i + 1))
sum_more start f ks i old new x p q r =
    let e : plus (plus start (over f ks i)) x ≡ plus start (plus (over f ks i) x) = Amount_eq _ _
    (omega (arith, ints)) (omega (arith, ints)) in
    let t : plus (over f ks i) x ≡ over f ks (i + 1) = total_step (λ j. f (get_or ks j 0)) i (over f ks i)
    (plus (over f ks i) x) x refl q refl in
    r ∙ ap (λ a. plus a x) p ∙ e ∙ ap (plus start) t

pub fits_more : (start : Amount) (f : ℕ → Amount) (ks : List ℕ) (i : ℕ) (old x : Amount)
    → old ≡ plus start (over f ks i) → f (get_or ks i 0) ≡ x → FitsPair (plus old x) → ListFits start f ks i
    → ListFits start f ks (i + 1)
fits_more start f ks i old x p q h l = below_more _ i l
    (fits_there old x (plus start (over f ks i)) (f (get_or ks i 0)) p q h)

-- sums over a list that was handed over as the numbers of the pairs that end at b
module _ (start : Amount) (end : ℕ → ℕ) (f : ℕ → Amount) (b m : ℕ) (ks : List ℕ) (is : ks ≡ numbers end b m) where
  pub number_below : (i : ℕ) → i < length ks → get_or ks i 0 < m
  number_below i l = grind (arith, common_steps, passing_at)

  pub all_in : (i : ℕ) (sum : Amount) → i ≡ length ks → sum ≡ plus start (over f ks i)
      → sum ≡ plus start (at_end end f m b)
  all_in i sum e h = grind (arith, common_steps, over, all_over)

  pub all_fit : (i : ℕ) → i ≡ length ks → ListFits start f ks i → EndFits start end f b m
  all_fit i e h =
      let Q : ℕ → Type 0 = λ j. ListFits start f ks j in
      let P : List ℕ → Type 0 = λ xs. ListFits start f xs (length xs) in
      fits_from_list start end f b m (subst P is (subst Q e h))

  pub one_overflows : (i : ℕ) (old x : Amount) → i < length ks → old ≡ plus start (over f ks i)
      → f (get_or ks i 0) ≡ x → ¬ (FitsPair (plus old x)) → EndOverflows start end f b m
  one_overflows i old x l p q h = grind (arith, common_steps, over, overflows_from_list, fits_there)

-- nothing fits
pub zero_fits : FitsPair zero_amount
zero_fits = (omega (arith, ints), omega (arith, ints))
