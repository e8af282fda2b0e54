-- The first steps to an offset, as they are gathered.
use Rattle.fixed_worth.proofs.Common.{◌≡◌, ℕ, ◌<◌, ◌+◌, List, [], ◌∷◌, ◌++◌, length, length-append, get_or, Contains}
use Rattle.fixed_worth.proofs.Common.{Bool, sym, ap, subst, ◌∙◌, arith, inl, inr, cases_lt, Contains-append_left}
use Rattle.fixed_worth.proofs.Common.{Contains-push, Contains-push_cases, get_or_default, get_or_append_left}
use Rattle.fixed_worth.proofs.Common.{get_or-append_seam, common_steps, Contains-append_right}
use Rattle.std.specs.Global.{Vec}
use Rattle.slope_offsets.specs.Prelude.{Offset, listed_at, offset_at, rest_after, IsFirstStep, AreFirstSteps}
use Rattle.slope_offsets.specs.Prelude.{AreStepsTo, AreStepsOfEach, AreStepsOfRegions, HoldsOf}
use Rattle.slope_offsets.specs.declared.selection.Selection.{Selection}

-- none among no offsets
pub no_steps : (os all : List Offset) (whole : Offset) (steps : List ℕ) → steps ≡ []
    → AreFirstSteps os all whole 0 steps
no_steps os all whole steps e = grind (arith, common_steps)

module _ (os all : List Offset) (whole : Offset) (k : ℕ) (steps : List ℕ) (h : AreFirstSteps os all whole k steps) where
  -- offset k is one
  pub step_more : (d : Offset) → k < length os → Contains all (rest_after (get_or os k d) whole)
      → AreFirstSteps os all whole (k + 1) (steps ++ k ∷ [])
  step_more d l onward = record {
    held = λ a b f. elim (cases_lt a k) [
      | inl below ↦ Contains-append_left steps (k ∷ []) a (h.held a below f)
      | inr least ↦ let e : k ≡ a = omega (arith, b, least) in subst (Contains (steps ++ k ∷ [])) e
          (Contains-push steps k)
    ];
    only = λ a c. elim (Contains-push_cases steps k a c) [
      | inl before ↦ h.only a before
      | inr e ↦ subst (IsFirstStep os all whole) e
          (record {
            known = l;
            onward = subst (λ o. Contains all (rest_after o whole)) (get_or_default os k d _ l)
                onward;
          })
    ];
  }

  -- offset k is none
  pub step_passed : (d : Offset) → k < length os → (Contains all (rest_after (get_or os k d) whole) → ⊥)
      → AreFirstSteps os all whole (k + 1) steps
  step_passed d l never = record {
    held = λ a b f. elim (cases_lt a k) [
      | inl below ↦ h.held a below f
      | inr least ↦
          let e : a ≡ k = omega (arith, b, least) in
          let g = subst (IsFirstStep os all whole) e f in
          absurd (never (subst (λ o. Contains all (rest_after o whole)) (get_or_default os k _ d l) g.onward))
    ];
    only = h.only;
  }

-- the steps to one offset more
pub each_more : (s : Selection) (os all : List Offset) (k : ℕ) (steps : List (Vec ℕ)) (one : Vec ℕ)
    → AreStepsOfEach s os all k steps → AreStepsTo s os all (offset_at os k) one.items
    → AreStepsOfEach s os all (k + 1) (steps ++ one ∷ [])
each_more s os all k steps one h f = record {
  as_many = length-append steps (one ∷ []) ∙ ap (λ n. n + 1) h.as_many;
  each = λ i d l. elim (cases_lt i k) [
    | inl below ↦ subst (λ (v : Vec ℕ). AreStepsTo s os all (offset_at os i) v.items)
        (sym (get_or_append_left steps (one ∷ []) d i (omega (arith, below, h.as_many)))) (h.each i d below)
    | inr least ↦
        let e : i ≡ length steps = omega (arith, l, least, h.as_many) in
        let at : get_or (steps ++ one ∷ []) i d ≡ one = ap (λ j. get_or (steps ++ one ∷ []) j d) e
        ∙ get_or-append_seam steps one [] d in
        let same : k ≡ i = omega (arith, l, least) in
        subst (λ (v : Vec ℕ). AreStepsTo s os all (offset_at os i) v.items) (sym at)
        (subst (λ j. AreStepsTo s os all (offset_at os j) one.items) same f)
  ];
}

-- those of one pattern more
pub region_more : (s : Selection) (ps : List (List Offset)) (all : List Offset) (k : ℕ) (steps : List (Vec (Vec ℕ)))
    (one : Vec (Vec ℕ)) → AreStepsOfRegions s ps all k steps
    → AreStepsOfEach s (listed_at ps k) all (length (listed_at ps k)) one.items
    → AreStepsOfRegions s ps all (k + 1) (steps ++ one ∷ [])
region_more s ps all k steps one h f = record {
  as_many = length-append steps (one ∷ []) ∙ ap (λ n. n + 1) h.as_many;
  each = λ i d l. elim (cases_lt i k) [
    | inl below ↦ subst (λ (v : Vec (Vec ℕ)). AreStepsOfEach s (listed_at ps i) all (length (listed_at ps i)) v.items)
        (sym (get_or_append_left steps (one ∷ []) d i (omega (arith, below, h.as_many)))) (h.each i d below)
    | inr least ↦
        let e : i ≡ length steps = omega (arith, l, least, h.as_many) in
        let at : get_or (steps ++ one ∷ []) i d ≡ one = ap (λ j. get_or (steps ++ one ∷ []) j d) e
        ∙ get_or-append_seam steps one [] d in
        let same : k ≡ i = omega (arith, l, least) in
        subst (λ (v : Vec (Vec ℕ)). AreStepsOfEach s (listed_at ps i) all (length (listed_at ps i)) v.items) (sym at)
        (subst (λ j. AreStepsOfEach s (listed_at ps j) all (length (listed_at ps j)) one.items) same f)
  ];
}

-- one pattern more
module _ (ps : List (List Offset)) (k : ℕ) (all : List Offset) (h : HoldsOf ps k all) where
  pub holds_more : (p grown : List Offset) → listed_at ps k ≡ p → grown ≡ all ++ p → HoldsOf ps (k + 1) grown
  holds_more p grown at e r o l c = elim (cases_lt r k) [
    | inl below ↦ subst (λ xs. Contains xs o) (sym e) (Contains-append_left all p o (h r o below c))
    | inr least ↦
        let same : r ≡ k = omega (arith, l, least) in
        let there : Contains p o = subst (λ xs. Contains xs o) (ap (listed_at ps) same ∙ at) c in
        subst (λ xs. Contains xs o) (sym e) (Contains-append_right all p o there)
  ]
