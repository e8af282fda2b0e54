-- The blocks of a set as a list, their pairs, and lists of them.
use Rattle.fixed_worth.proofs.Common.{◌≡◌, ℕ, ◌<◌, All, Bool, true, List, length, map, get_or, refl, sym, subst, ap}
use Rattle.fixed_worth.proofs.Common.{◌∙◌, arith, get_or-map, length-map, common_steps}
use Rattle.closure_net.specs.Network.{holds_of, IsAscending}
use Rattle.closure_net.proofs.Holding.{holds_at, place_of, same_tests}
use Rattle.prec_file.specs.Rests.{has_pair, numbers_passing}
use Rattle.prec_file.proofs.Passing.{passing_at, passing_here, passing_after}
use Rattle.closure_net.proofs.Reach.{ascends, passing_known}
use Rattle.sub_mines.specs.Renumbered.{IsListed, IsImage, number_in, IsKept, IsPartPairs}
use Rattle.prec_file.proofs.Pairs.{rests_of_pair, pair_of_rests}

-- ---- the list

pub listed : (set : ℕ → Bool) (n : ℕ) (kept : List ℕ) → IsKept set n kept
    → IsListed set n (length kept) (number_in kept)
listed set n kept h = grind (arith, common_steps, holds_at, place_of)

pub same_rests : (kept : List ℕ) (pairs less : List (ℕ × ℕ)) → IsPartPairs kept pairs less → (i j : ℕ)
    → i < length kept → j < length kept
    → has_pair less i j ≡ has_pair pairs (number_in kept i) (number_in kept j)
same_rests kept pairs less h i j l k =
    same_tests (has_pair less i j) (has_pair pairs (number_in kept i) (number_in kept j))
    (λ t. rests_of_pair pairs (number_in kept i) (number_in kept j) ((h.same i j l k).0 (pair_of_rests less i j t)))
    (λ t. rests_of_pair less i j ((h.same i j l k).1 (pair_of_rests pairs (number_in kept i) (number_in kept j) t)))

-- ---- lists of them

-- the list of the blocks at the places of a list holds the image of what that list holds
pub list_image : (n : ℕ) (kept xs : List ℕ) → IsAscending kept → All (λ i. i < length kept) xs
    → IsImage n (length kept) (number_in kept) (holds_of xs) (holds_of (map (number_in kept) xs))
list_image n kept xs h low = record {
  same = λ i l. same_tests (holds_of (map (number_in kept) xs) (number_in kept i)) (holds_of xs i)
      (λ t.
      let x = place_of (map (number_in kept) xs) (number_in kept i) t in
      let k : x.0 < length xs = subst (λ n. x.0 < n) (length-map xs (number_in kept)) x.1 in
      let at : number_in kept (get_or xs x.0 0) ≡ number_in kept i = sym (get_or-map (number_in kept) xs x.0 0 0 k)
      ∙ x.2 in
      let same : get_or xs x.0 0 ≡ i = grind (arith, common_steps) in
      subst (λ m. holds_of xs m ≡ true) same (holds_at xs x.0 k))
      (λ t.
      let x = place_of xs i t in
      let k : x.0 < length (map (number_in kept) xs) = subst (λ n. x.0 < n) (sym (length-map xs (number_in kept)))
      x.1 in
      let at : get_or (map (number_in kept) xs) x.0 0 ≡ number_in kept i = get_or-map (number_in kept) xs x.0 0 0 x.1
      ∙ ap (number_in kept) x.2 in
      subst (λ m. holds_of (map (number_in kept) xs) m ≡ true) at (holds_at (map (number_in kept) xs) x.0 k));
  only = λ b l t.
      let x = place_of (map (number_in kept) xs) b t in
      let k : x.0 < length xs = subst (λ n. x.0 < n) (length-map xs (number_in kept)) x.1 in
      (get_or xs x.0 0, low x.0 0 k, sym (get_or-map (number_in kept) xs x.0 0 0 k) ∙ x.2);
}

-- ---- the list of a set

pub passing_is_kept : (set : ℕ → Bool) (n : ℕ) → IsKept set n (numbers_passing set n)
passing_is_kept set n = record {
  ascending = ascends set n (numbers_passing set n) refl;
  below = passing_known set n (numbers_passing set n) refl;
  are = λ b l. same_tests (holds_of (numbers_passing set n) b) (set b)
      (λ t.
      let x = place_of (numbers_passing set n) b t in
      ap set (sym x.2) ∙ (passing_at set n x.0 x.1).passes)
      (λ t. ap (holds_of (numbers_passing set n)) (sym (passing_here set b n l t))
      ∙ holds_at (numbers_passing set n) (length (numbers_passing set b)) (passing_after set b n l t));
}
