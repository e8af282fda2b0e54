-- Finding an offset among those of a pattern.
use Rattle.fixed_worth.proofs.Common.{◌≡◌, ◌↔◌, Bool, IsTrue, ℕ, ◌≤◌, ◌<ℤ◌, inl, inr, List, length, get_or, Result, Ok}
use Rattle.fixed_worth.proofs.Common.{Err, MatchResult, Contains, sym, refl, ap, ◌∙◌, arith, Ordering, Less, Greater}
use Rattle.fixed_worth.proofs.Common.{MatchOrdering, ordering_then, ordering_reverse, ordering_index, int_cmp, is_eq}
use Rattle.fixed_worth.proofs.Common.{is_ok, IsBinarySearchResult, IsNonDecreasingBy, IsSearchInRange, int_ranked}
use Rattle.fixed_worth.proofs.Common.{cases_lt, IsNonDecreasingBy-from_default, common_steps}
use Rattle.slope_offsets.specs.Offsets.{Offset, OffsetBefore, AreOffsetsRising}
use Rattle.slope_offsets.proofs.OffsetSorting.{offset_cmp, offset_ties, offset_same, offsets_total, not_both}

-- the order of two offsets by that of their numbers
less_from : (x y : Offset) (o p q : Ordering) → MatchOrdering o (x.0 <ℤ y.0) (x.0 ≡ y.0) (y.0 <ℤ x.0)
    → MatchOrdering p (x.1 <ℤ y.1) (x.1 ≡ y.1) (y.1 <ℤ x.1) → MatchOrdering q (x.2 <ℤ y.2) (x.2 ≡ y.2) (y.2 <ℤ x.2)
    → OffsetBefore x y → ordering_then (ordering_then o p) q ≡ Less
less_from x y o p q h k l f = grind (arith, common_steps)

before_less : (x y : Offset) → OffsetBefore x y → offset_cmp x y ≡ Less
before_less x y b = less_from x y (int_cmp x.0 y.0) (int_cmp x.1 y.1) (int_cmp x.2 y.2) (int_ranked x.0 y.0 _ refl)
    (int_ranked x.1 y.1 _ refl) (int_ranked x.2 y.2 _ refl) b

no_higher : (x y t : Offset) (o p : Ordering) → offset_cmp x t ≡ o → offset_cmp y t ≡ p → offset_cmp x y ≡ Less
    → ordering_index o ≤ ordering_index p
no_higher x y t o p e f h = grind (arith, common_steps, offset_same, offset_ties, offset_cmp, offsets_total)

rises_to : (os : List Offset) (t : Offset) → AreOffsetsRising os
    → IsNonDecreasingBy (λ y. ordering_index (offset_cmp y t)) os
rises_to os t r = IsNonDecreasingBy-from_default (λ y. ordering_index (offset_cmp y t)) os t
    (λ i j l h. elim (cases_lt i j) [
      | inl below ↦ no_higher (get_or os i t) (get_or os j t) t _ _ refl refl (before_less _ _ (r.rises i j t below h))
      | inr least ↦
          let e : i ≡ j = omega (arith, l, least) in
          rw e (omega arith)
    ])

-- no offset is below or above itself
apart : Less ≡ Greater → ⊥
apart e = absurd cc

not_less : (t : Offset) → offset_cmp t t ≡ Less → ⊥
not_less t e = apart (sym e ∙ offsets_total.antisymm t t ∙ ap ordering_reverse e)

not_greater : (t : Offset) → offset_cmp t t ≡ Greater → ⊥
not_greater t e = apart (sym (sym e ∙ offsets_total.antisymm t t ∙ ap ordering_reverse e))

-- what a binary search says of the offsets
pub offset_found : (os : List Offset) (t : Offset) (r : Result ℕ ℕ) → IsSearchInRange r (length os)
    → IsBinarySearchResult (λ y. offset_cmp y t) os r → AreOffsetsRising os
    → MatchResult r (λ i. Contains os t) (λ i. Contains os t → ⊥)
offset_found os t (Ok i) within h rising =
    (i, within, offset_same (get_or os i t) t (offset_ties (get_or os i t) t ∙ ap is_eq (h t)))
offset_found os t (Err i) within h rising = grind
    (arith, common_steps, (h (rises_to os t rising)), (rises_to os t rising))

-- whether one was found says whether it is among them
pub found_decides : (os : List Offset) (t : Offset) (r : Result ℕ ℕ) (b : Bool) → IsSearchInRange r (length os)
    → IsBinarySearchResult (λ y. offset_cmp y t) os r → AreOffsetsRising os → b ≡ is_ok r → IsTrue b ↔ Contains os t
found_decides os t (Ok i) b within h rising e = (λ k. offset_found os t (Ok i) within h rising, λ k. e)
found_decides os t (Err i) b within h rising e =
    (λ k. absurd (not_both b k e), λ k. absurd (offset_found os t (Err i) within h rising k))
