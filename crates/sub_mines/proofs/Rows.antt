-- The steps in which the pairs among some blocks are gathered.
use Rattle.fixed_worth.proofs.Common.{◌≡◌, ◌≢◌, ℕ, zero, suc, ◌+◌, ◌-◌, ◌<◌, ◌≤◌, All, List, [], ◌∷◌, ◌++◌, length}
use Rattle.fixed_worth.proofs.Common.{get_or, inl, inr, sym, subst, ap, ◌∙◌, arith, Contains, cases_lt, get_or_default}
use Rattle.fixed_worth.proofs.Common.{Contains-append_left, Contains-push, Contains-push_cases, All-contains_itself}
use Rattle.fixed_worth.proofs.Common.{All-weaker, common_steps}
use Rattle.prec_file.specs.Rests.{above_of, from_at, to_at, first_of, numbers, IsRising, IsRests, RestsView, ArePairsOf}
use Rattle.prec_file.specs.Rests.{AreApart, IsKnown}
use Rattle.prec_file.proofs.Finding.{above_at, above_has}
use Rattle.closure_net.specs.Network.{IsAscending}
use Rattle.sub_mines.specs.Prelude.{IsPartPairs, ArePlacesAmong, IsAmong, AreRowsAmong, AreRowsAnd}

-- ---- places

-- a place is no higher than the block there
pub place_below : (kept : List ℕ) → IsAscending kept → (i : ℕ) → i < length kept → i ≤ get_or kept i 0
place_below kept h zero l = omega arith
place_below kept h (suc i) l = grind (arith, common_steps, (place_below kept h i (omega (arith, l))))

-- ---- rows

read : (pairs : List (ℕ × ℕ)) (q : ℕ × ℕ) (c : Contains pairs q) → get_or pairs c.0 (0, 0) ≡ q
read pairs q c = get_or_default pairs c.0 (0, 0) q c.1 ∙ c.2

module _ (pairs : List (ℕ × ℕ)) (kept : List ℕ) (row : ℕ) (found : List (ℕ × ℕ)) where
  pub row_begun : AreRowsAmong pairs kept row found → AreRowsAnd pairs kept row 0 found
  row_begun h = record {
    held = h.held;
    more = λ j u l k e. absurd (omega (arith, l));
    only = λ i j c. let x = h.only i j c in let l = x.0 in (omega (arith, l), x.1);
  }

  pub row_ended : (t : ℕ) → length (above_of pairs (get_or kept row 0)) ≤ t → AreRowsAnd pairs kept row t found
      → AreRowsAmong pairs kept (row + 1) found
  row_ended t all h = record {
    held = λ i j l a. elim (cases_lt i row) [
      | inl below ↦ h.held i j below a
      | inr past ↦
          let same : i ≡ row = omega (arith, l, past) in
          let c : Contains pairs (get_or kept row 0, get_or kept j 0) = subst
          (λ k. Contains pairs (get_or kept k 0, get_or kept j 0)) same a.rests in
          let is = read pairs (get_or kept row 0, get_or kept j 0) c in
          let from : from_at pairs c.0 ≡ get_or kept row 0 = ap (λ (q : ℕ × ℕ). q.0) is in
          let to : to_at pairs c.0 ≡ get_or kept j 0 = ap (λ (q : ℕ × ℕ). q.1) is in
          let x = above_has pairs (get_or kept row 0) c.0 c.1 from in
          let k = h.more j (length (numbers (from_at pairs) (get_or kept row 0) c.0)) (omega (arith, x.0, all))
          a.second (x.1 ∙ to) in
          subst (λ m. Contains found (m, j)) (sym same) k
    ];
    only = λ i j c. let x = h.only i j c in let l = x.0 in (omega (arith, l), x.1);
  }

module _ (pairs : List (ℕ × ℕ)) (kept : List ℕ) (row t n : ℕ) (places : List ℕ) (found : List (ℕ × ℕ)) (p : ℕ)
    (h : AreRowsAnd pairs kept row t found) (known : ArePlacesAmong n kept (length kept) places)
    (here : get_or (above_of pairs (get_or kept row 0)) t 0 ≡ p) where
  -- the block isn't in the list
  pub row_passed : get_or places p 0 ≡ 0 → AreRowsAnd pairs kept row (t + 1) found
  row_passed none = record {
    held = h.held;
    more = λ j u l k e. elim (cases_lt u t) [
      | inl below ↦ h.more j u below k e
      | inr past ↦
          let same : u ≡ t = omega (arith, l, past) in
          let is : p ≡ get_or kept j 0 = sym here ∙ ap (λ x. get_or (above_of pairs (get_or kept row 0)) x 0)
          (sym same) ∙ e in
          let zero_there : get_or places (get_or kept j 0) 0 ≡ 0 = ap (λ x. get_or places x 0) (sym is) ∙ none in
          absurd (let one = known.at j k in omega (arith, zero_there, one))
    ];
    only = h.only;
  }

  module _ (rising : IsRising pairs) (inside : row < length kept)
      (l : t < length (above_of pairs (get_or kept row 0))) (low : p < n) (some : get_or places p 0 ≢ 0) (j0 : ℕ)
      (j0_is : j0 ≡ get_or places p 0 - 1) where
    taken : IsAmong pairs kept row j0
    taken = grind (
      arith,
      common_steps,
      (known.only p low some),
      (above_at pairs rising (get_or kept row 0) t l),
      (get_or_default pairs (first_of pairs (get_or kept row 0) + t)
          (get_or kept row 0, get_or (above_of pairs (get_or kept row 0)) t 0) (0, 0)
          (above_at pairs rising (get_or kept row 0) t l).0),
    )

    pub row_taken : AreRowsAnd pairs kept row (t + 1) (found ++ (row, j0) ∷ [])
    row_taken = record {
      held = λ i j k a. Contains-append_left found ((row, j0) ∷ []) (i, j) (h.held i j k a);
      more = λ j u k m e. elim (cases_lt u t) [
        | inl below ↦ Contains-append_left found ((row, j0) ∷ []) (row, j) (h.more j u below m e)
        | inr past ↦
            let same : u ≡ t = omega (arith, k, past) in
            let is : p ≡ get_or kept j 0 = sym here ∙ ap (λ x. get_or (above_of pairs (get_or kept row 0)) x 0)
            (sym same) ∙ e in
            let place : get_or places p 0 ≡ j + 1 = ap (λ x. get_or places x 0) is ∙ known.at j m in
            let which : j0 ≡ j = omega (arith, place, j0_is) in
            subst (λ x. Contains (found ++ (row, j0) ∷ []) (row, x)) which (Contains-push found (row, j0))
      ];
      only = λ i j c. elim (Contains-push_cases found (row, j0) (i, j) c) [
        | inl old ↦ h.only i j old
        | inr new ↦ subst (λ (q : ℕ × ℕ). (q.0 ≤ row) × IsAmong pairs kept q.0 q.1) new (omega arith, taken)
      ];
    }

-- the blocks that one rests on are known
pub above_known : (v : RestsView) (b t : ℕ) → IsRests v → t < length (above_of v.pairs b)
    → get_or (above_of v.pairs b) t 0 < v.blocks
above_known v b t h l = grind (
  arith,
  common_steps,
  (above_at v.pairs h.rising b t l),
  (h.known (first_of v.pairs b + t) (0, 0) (above_at v.pairs h.rising b t l).0),
)

-- ---- all rows

pub rows_known : (pairs : List (ℕ × ℕ)) (kept : List ℕ) (found : List (ℕ × ℕ))
    → AreRowsAmong pairs kept (length kept) found → All (IsKnown (length kept)) found
rows_known pairs kept found h = All-weaker (Contains found) (IsKnown (length kept))
    (λ q c. let x = h.only q.0 q.1 c in (x.0, x.1.second)) found (All-contains_itself found)

pub rows_are_part : (pairs : List (ℕ × ℕ)) (kept : List ℕ) (found sorted : List (ℕ × ℕ)) → AreApart pairs
    → AreRowsAmong pairs kept (length kept) found → ArePairsOf found sorted → IsPartPairs kept pairs sorted
rows_are_part pairs kept found sorted apart h s = record {
  known = λ i j c. let x = h.only i j (s.only (i, j) c).0 in (x.0, x.1.second);
  same = λ i j l k. (
    λ c. (h.only i j (s.only (i, j) c).0).1.rests,
    λ c. s.held (i, j) (h.held i j l (record { first = l; second = k; rests = c }))
        (λ e. apart (get_or kept i 0, get_or kept j 0) c (ap (λ x. get_or kept x 0) e)),
  );
}
