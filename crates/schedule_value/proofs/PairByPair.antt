-- The pairs that a schedule breaks, pair by pair.
use Rattle.fixed_worth.proofs.Common.{◌≡◌, ℕ, ◌+◌, ◌<◌, ◌≤◌, Bool, true, false, cond, List, [], ◌∷◌, ◌++◌, length, take}
use Rattle.fixed_worth.proofs.Common.{append-nil, refl, sym, ap, ◌∙◌, arith, length-append, take_all, take-append-le}
use Rattle.fixed_worth.proofs.Common.{length-take-le, filter-append, common_steps}
use Rattle.prec_file.proofs.Sorting.{length_filter_most}
use Rattle.schedule_value.specs.Breaking.{breaks, broken_pairs, most_told, AreBroken}

module _ (lag : ℕ) (schedule : ℕ → ℕ) (periods : ℕ) where
  one : (pair : ℕ × ℕ) (t : Bool) → breaks lag schedule periods pair ≡ t
      → broken_pairs lag schedule periods (pair ∷ []) ≡ cond t (pair ∷ []) []
  one pair true e = rw e refl
  one pair false e = rw e refl

  with_pair : (ps : List (ℕ × ℕ)) (pair : ℕ × ℕ) (t : Bool) → breaks lag schedule periods pair ≡ t
      → broken_pairs lag schedule periods (ps ++ pair ∷ []) ≡ broken_pairs lag schedule periods ps ++ cond t
      (pair ∷ []) []
  with_pair ps pair t e = filter-append (breaks lag schedule periods) ps (pair ∷ [])
      ∙ ap (λ (xs : List (ℕ × ℕ)). broken_pairs lag schedule periods ps ++ xs) (one pair t e)

  pub stays : (ps : List (ℕ × ℕ)) (pair : ℕ × ℕ) (count : ℕ) (first : List (ℕ × ℕ))
      → breaks lag schedule periods pair ≡ false → AreBroken lag schedule periods ps count first
      → AreBroken lag schedule periods (ps ++ pair ∷ []) count first
  stays ps pair count first e h =
      let xs = broken_pairs lag schedule periods ps in
      let same : broken_pairs lag schedule periods (ps ++ pair ∷ []) ≡ xs ++ [] = with_pair ps pair false e in
      let none = length-append xs [] in
      record {
        all = omega (arith, h.all, ap length same, none);
        first = h.first ∙ ap (take most_told) (sym (same ∙ append-nil xs));
      }

  more_all : (ps : List (ℕ × ℕ)) (pair : ℕ × ℕ) (count : ℕ) → breaks lag schedule periods pair ≡ true
      → count ≡ length (broken_pairs lag schedule periods ps)
      → count + 1 ≡ length (broken_pairs lag schedule periods (ps ++ pair ∷ []))
  more_all ps pair count e h = omega
      (arith, h, ap length (with_pair ps pair true e), length-append (broken_pairs lag schedule periods ps) (pair ∷ []))

  few_broken : (xs first : List (ℕ × ℕ)) → first ≡ take most_told xs → length first < most_told → length xs < most_told
  few_broken xs first e l = grind (arith, common_steps)

  many_broken : (xs first : List (ℕ × ℕ)) → first ≡ take most_told xs → most_told ≤ length first → most_told ≤ length xs
  many_broken xs first e l = grind (arith, common_steps)

  pub breaks_told : (ps : List (ℕ × ℕ)) (pair : ℕ × ℕ) (count : ℕ) (first : List (ℕ × ℕ))
      → breaks lag schedule periods pair ≡ true → length first < most_told
      → AreBroken lag schedule periods ps count first → AreBroken lag schedule periods (ps ++ pair ∷ []) (count + 1)
      (first ++ pair ∷ [])
  breaks_told ps pair count first e l h =
      let xs = broken_pairs lag schedule periods ps in
      let few : length xs < most_told = few_broken xs first h.first l in
      let room : length (xs ++ pair ∷ []) ≤ most_told = omega (arith, few, length-append xs (pair ∷ [])) in
      let all : length xs ≤ most_told = omega (arith, few) in
      record {
        all = more_all ps pair count e h.all;
        first = ap (λ (ys : List (ℕ × ℕ)). ys ++ pair ∷ []) (h.first ∙ take_all most_told xs all)
            ∙ sym (take_all most_told (xs ++ pair ∷ []) room) ∙ ap (take most_told) (sym (with_pair ps pair true e));
      }

  pub breaks_untold : (ps : List (ℕ × ℕ)) (pair : ℕ × ℕ) (count : ℕ) (first : List (ℕ × ℕ))
      → breaks lag schedule periods pair ≡ true → most_told ≤ length first
      → AreBroken lag schedule periods ps count first
      → AreBroken lag schedule periods (ps ++ pair ∷ []) (count + 1) first
  breaks_untold ps pair count first e l h =
      let xs = broken_pairs lag schedule periods ps in
      record {
        all = more_all ps pair count e h.all;
        first = h.first ∙ sym (take-append-le most_told xs (pair ∷ []) (many_broken xs first h.first l))
            ∙ ap (take most_told) (sym (with_pair ps pair true e));
      }

  -- no more of the pairs are broken than are taken in
  pub few_break : (ps : List (ℕ × ℕ)) (k count : ℕ) (first : List (ℕ × ℕ)) → k ≤ length ps
      → AreBroken lag schedule periods (take k ps) count first → count ≤ k
  few_break ps k count first l h = omega
      (arith, h.all, length_filter_most (breaks lag schedule periods) (take k ps), length-take-le k ps l)
