-- Finding a key among keys in order.
use Rattle.fixed_worth.proofs.Common.{◌≡◌, ℕ, ◌-◌, ◌≤◌, inl, inr, List, length, get_or, Result, Ok, Err, Contains, ap}
use Rattle.fixed_worth.proofs.Common.{subst, ◌∙◌, arith, IsBinarySearchResult, IsSearchInRange, is_eq, cases_lt}
use Rattle.slope_offsets.specs.Prelude.{Offset, OffsetBefore, AreOffsetsRising}
use Rattle.slope.specs.Prelude.{IsEndOrBelow, IsStartOrAbove, IsFinding}
use Rattle.slope_offsets.proofs.OffsetSorting.{offset_cmp, offset_ties, offset_same, before_itself, before_trans}
use Rattle.slope_offsets.proofs.OffsetFinding.{offset_found}

-- a key between two neighbours is none of the keys
pub absent : (keys : List Offset) (key : Offset) (at : ℕ) → AreOffsetsRising keys → at ≤ length keys
    → IsEndOrBelow keys key at → IsStartOrAbove keys key at → Contains keys key → ⊥
absent keys key at r l above below (k, m, e) = elim (cases_lt k at) [
  | inl lower ↦ elim below [
    | inl none ↦ omega (arith, none, lower)
    | inr b ↦ elim (cases_lt k (at - 1)) [
      | inl further ↦ before_itself key
          (subst (λ x. OffsetBefore x key) e
          (before_trans _ _ _ (r.rises k (at - 1) key further (omega (arith, lower, l))) b))
      | inr here ↦
          let s : at - 1 ≡ k = omega (arith, lower, here) in
          before_itself key (subst (λ x. OffsetBefore x key) (ap (λ j. get_or keys j key) s ∙ e) b)
    ]
  ]
  | inr upper ↦ elim above [
    | inl ends ↦ omega (arith, ends, m, upper)
    | inr a ↦ elim (cases_lt at k) [
      | inl further ↦ before_itself key (subst (OffsetBefore key) e (before_trans _ _ _ a (r.rises at k key further m)))
      | inr here ↦
          let s : at ≡ k = omega (arith, upper, here) in
          before_itself key (subst (OffsetBefore key) (ap (λ j. get_or keys j key) s ∙ e) a)
    ]
  ]
]

-- what a binary search says of a key
pub searched_key : (keys : List Offset) (key : Offset) (r : Result ℕ ℕ) → IsSearchInRange r (length keys)
    → IsBinarySearchResult (λ y. offset_cmp y key) keys r → AreOffsetsRising keys → IsFinding keys key r
searched_key keys key (Ok i) within h rising =
    (within, offset_same (get_or keys i key) key (offset_ties (get_or keys i key) key ∙ ap is_eq (h key)))
searched_key keys key (Err i) within h rising = (within, offset_found keys key (Err i) within h rising)
