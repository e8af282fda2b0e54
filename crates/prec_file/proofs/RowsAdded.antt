-- The pairs of further blocks, as they are held, after those of the blocks before them.
use Rattle.fixed_worth.proofs.Common.{◌≡◌, ℕ, zero, suc, ◌+◌, ◌-◌, ◌<◌, ◌≤◌, Bool, true, nat_lt, inl, inr, List, []}
use Rattle.fixed_worth.proofs.Common.{◌∷◌, ◌++◌, length, get_or, map, drop, sym, refl, ap, subst, ◌∙◌, arith, nat_tests}
use Rattle.fixed_worth.proofs.Common.{length-append, length-drop, cases_lt, get_or_append_left, get_or-append_right}
use Rattle.fixed_worth.proofs.Common.{get_or-drop, get_or-map, get_or_default, length-map, map-append, All-append}
use Rattle.fixed_worth.proofs.Common.{Contains-append_cases, common_steps}
use Rattle.prec_file.specs.declared.limits.TheConstants.{MOST_PAIRS}
use Rattle.prec_file.specs.Prelude.{numbers_passing, count_ending_below, from_at, Before, IsKnown, IsRests, IsStarts}
use Rattle.prec_file.specs.Prelude.{AreRows, pairs_by}
use Rattle.prec_file.proofs.Passing.{passing_between, passing_after, passing_all, passing_most, length-numbers_passing}
use Rattle.prec_file.proofs.Passing.{bit}
use Rattle.prec_file.proofs.Order.{lt_false}
use Rattle.prec_file.proofs.RowSteps.{passing_same, rows_told, rows_length}

-- the numbers that pass among the first m, and those among the next j
passing_split : (test : ℕ → Bool) (m j : ℕ) → length (numbers_passing test (m + j)) ≡ length (numbers_passing test m)
    + length (numbers_passing (λ k. test (m + k)) j)
passing_split test m zero = grind (arith, common_steps)
passing_split test m (suc j) =
    let e : m + suc j ≡ suc (m + j) = omega arith in
    let whole : length (numbers_passing test (m + suc j)) ≡ length (numbers_passing test (m + j)) + bit
    (test (m + j)) = ap (λ i. length (numbers_passing test i)) e ∙ length-numbers_passing test (m + j) in
    omega (arith, whole, passing_split test m j, length-numbers_passing (λ k. test (m + k)) j)

lt_true : (x y : ℕ) → x < y → nat_lt x y ≡ true
lt_true x y h = grind (arith, nat_tests)

module _ (n next last : ℕ) (ps qs : List (ℕ × ℕ)) (firsts predecessors begun listed : List ℕ)
    (h : AreRows n next ps firsts predecessors) (g : AreRows n last qs begun listed)
    (rises : next ≤ last) (none : get_or begun next 0 ≡ 0) (few : length ps + length qs ≤ MOST_PAIRS) where
  size : length (ps ++ qs) ≡ length ps + length qs
  size = length-append ps qs

  old_at : (k : ℕ) → k < length ps → get_or (ps ++ qs) k (0, 0) ≡ get_or ps k (0, 0)
  old_at k l = get_or_append_left ps qs (0, 0) k l

  new_at : (k : ℕ) → length ps ≤ k → get_or (ps ++ qs) k (0, 0) ≡ get_or qs (k - length ps) (0, 0)
  new_at k l = get_or-append_right ps qs (length ps) k (0, 0) refl l

  old_from : (k : ℕ) → k < length ps → from_at (ps ++ qs) k < next
  old_from k l = let e = ap (λ (p : ℕ × ℕ). p.0) (old_at k l) in let b = h.listed k l in omega arith

  -- none of the further pairs is of a block below the next one
  other_from : (k : ℕ) → k < length qs → next ≤ from_at qs k
  other_from k l = elim (cases_lt (from_at qs k) next) [
    | inl o ↦
        let at = g.firsts.at next rises in
        let more = passing_after (λ j. nat_lt (from_at qs j) next) k (length qs) l (lt_true (from_at qs k) next o) in
        absurd (omega (arith, at, more, none))
    | inr o ↦ o
  ]

  new_from : (k : ℕ) → length ps ≤ k → k < length (ps ++ qs) → next ≤ from_at (ps ++ qs) k
  new_from k l m = let e = ap (λ (p : ℕ × ℕ). p.0) (new_at k l) in let b = other_from (k - length ps)
      (omega (arith, size)) in omega arith

  risen : (i j : ℕ) → i < j → j < length (ps ++ qs) → Before (get_or (ps ++ qs) i (0, 0)) (get_or (ps ++ qs) j (0, 0))
  risen i j l m = elim (cases_lt j (length ps)) [
    | inl o ↦
        subst (λ x. Before x (get_or (ps ++ qs) j (0, 0))) (sym (old_at i (omega arith)))
        (subst (Before (get_or ps i (0, 0))) (sym (old_at j o)) (h.rests.rising.rises i j l o))
    | inr o ↦ elim (cases_lt i (length ps)) [
      | inl u ↦ let b = old_from i u in let e = new_from j o m in inl (omega arith)
      | inr u ↦
          subst (λ x. Before x (get_or (ps ++ qs) j (0, 0))) (sym (new_at i u))
          (subst (Before (get_or qs (i - length ps) (0, 0))) (sym (new_at j o))
          (g.rests.rising.rises (i - length ps) (j - length ps) (omega arith) (omega (arith, size))))
    ]
  ]

  most : length (ps ++ qs) ≤ MOST_PAIRS
  most = omega (arith, size, few)

  rests_added : IsRests (record { blocks = n; pairs = ps ++ qs })
  rests_added = record {
    blocks = h.rests.blocks;
    few = omega (arith, most);
    known = All-append (IsKnown n) ps qs h.rests.known g.rests.known;
    rising = record { rises = risen };
    apart = λ p k e. elim (Contains-append_cases ps qs p k)
        [ inl c ↦ h.rests.apart p c e | inr c ↦ g.rests.apart p c e ];
  }

  listed_added : (k : ℕ) → k < length (ps ++ qs) → from_at (ps ++ qs) k < last
  listed_added k l = elim (cases_lt k (length ps)) [
    | inl o ↦ let b = old_from k o in omega arith
    | inr o ↦ let e = ap (λ (p : ℕ × ℕ). p.0) (new_at k o) in let b = g.listed (k - length ps)
        (omega (arith, size)) in omega arith
  ]

  below_old : (b : ℕ) → b ≤ next → count_ending_below (from_at ps) b (length ps) ≡ count_ending_below
      (from_at (ps ++ qs)) b (length (ps ++ qs))
  below_old b l =
      let old = passing_same (λ k. nat_lt (from_at ps k) b) (λ k. nat_lt (from_at (ps ++ qs) k) b) (length ps)
      (λ k m. ap (λ (p : ℕ × ℕ). nat_lt p.0 b) (sym (old_at k m))) in
      let rest = passing_between (λ k. nat_lt (from_at (ps ++ qs) k) b) (length ps) (length (ps ++ qs))
      (omega (arith, size)) (λ k m i. let e = new_from k m i in lt_false (from_at (ps ++ qs) k) b (omega arith)) in
      ap length old ∙ sym rest

  below_new : (b : ℕ) → next < b → length ps + count_ending_below (from_at qs) b (length qs) ≡ count_ending_below
      (from_at (ps ++ qs)) b (length (ps ++ qs))
  below_new b l =
      let test : ℕ → Bool = λ k. nat_lt (from_at (ps ++ qs) k) b in
      let whole = ap (λ i. length (numbers_passing test i)) size in
      let all : length (numbers_passing test (length ps)) ≡ length ps = passing_all test (length ps)
      (λ k m. let o = old_from k m in lt_true (from_at (ps ++ qs) k) b (omega arith)) in
      let shifted : (k : ℕ) → k < length qs → test (length ps + k) ≡ nat_lt (from_at qs k) b =
      λ k m.
      let e : length ps + k - length ps ≡ k = omega arith in
      ap (λ (p : ℕ × ℕ). nat_lt p.0 b) (new_at (length ps + k) (omega arith) ∙ ap (λ j. get_or qs j (0, 0)) e) in
      let same = ap length (passing_same (λ k. test (length ps + k)) (λ k. nat_lt (from_at qs k) b)
      (length qs) shifted) in
      omega (arith, whole, all, same, passing_split test (length ps) (length qs))

  numbers_begun : List ℕ
  numbers_begun = map (λ k. length ps + k) (drop (next + 1) begun)

  starts_added : IsStarts (from_at (ps ++ qs)) (length (ps ++ qs)) last (firsts ++ numbers_begun)
  unfolding numbers_begun
  starts_added =
      let old_size = h.firsts.size in
      let other_size = g.firsts.size in
      let more = length-map (drop (next + 1) begun) (λ k. length ps + k) in
      let cut = length-drop (next + 1) begun in
      record {
        size = omega (arith, old_size, other_size, more, cut, length-append firsts numbers_begun);
        at = λ b l. elim (cases_lt b (next + 1)) [
          | inl o ↦ get_or_append_left firsts numbers_begun 0 b (omega (arith, old_size))
              ∙ h.firsts.at b (omega arith) ∙ below_old b (omega arith)
          | inr o ↦
              let place : next + 1 + (b - (next + 1)) ≡ b = omega arith in
              get_or-append_right firsts numbers_begun (next + 1) b 0 old_size o
              ∙ get_or-map (λ k. length ps + k) (drop (next + 1) begun) (b - (next + 1)) 0 0
              (omega (arith, cut, other_size))
              ∙ ap (λ k. length ps + k) (get_or-drop (next + 1) begun (b - (next + 1)) 0
              ∙ ap (λ j. get_or begun j 0) place ∙ g.firsts.at b l)
              ∙ below_new b (omega arith)
        ];
      }

  rows_added : AreRows n last (ps ++ qs) (firsts ++ numbers_begun) (predecessors ++ listed)
  rows_added = record {
    rests = rests_added;
    few = most;
    within = g.within;
    listed = listed_added;
    predecessors = (λ i. h.predecessors i ++ g.predecessors i) ∙ sym (map-append (λ (q : ℕ × ℕ). q.1) ps qs);
    firsts = starts_added;
  }

  -- the lists as they were written
  pub added_rows : (by : ℕ) (numbers starts held : List ℕ) → by ≡ length predecessors
      → numbers ≡ drop (next + 1) begun → starts ≡ firsts ++ map (λ k. by + k) numbers → held ≡ predecessors ++ listed
      → (pairs_by starts held ≡ ps ++ qs) × AreRows n last (pairs_by starts held) starts held
  unfolding numbers_begun
  added_rows by numbers starts held b c f p =
      let by_is : by ≡ length ps = b ∙ rows_length n next ps firsts predecessors h in
      let starts_are : starts ≡ firsts ++ numbers_begun = f ∙ (λ i. firsts ++ map (λ k. by_is i + k) (c i)) in
      let rows : AreRows n last (ps ++ qs) starts held = rw (starts_are, p) rows_added in
      let told = rows_told n last (ps ++ qs) starts held rows in
      (told, subst (λ (rs : List (ℕ × ℕ)). AreRows n last rs starts held) (sym told) rows)

-- the numbers of first pairs are no larger than the number of pairs
pub begun_few : (n last : ℕ) (qs : List (ℕ × ℕ)) (begun listed : List ℕ) → AreRows n last qs begun listed
    → (m k d : ℕ) → k < length (drop m begun) → get_or (drop m begun) k d ≤ MOST_PAIRS
begun_few n last qs begun listed g m k d l =
    let size = g.firsts.size in
    let cut = length-drop m begun in
    let at = g.firsts.at (m + k) (omega (arith, size, cut, l)) in
    let same = get_or_default begun (m + k) d 0 (omega (arith, cut, l)) in
    let few = passing_most (λ j. nat_lt (from_at qs j) (m + k)) (length qs) in
    omega (arith, get_or-drop m begun k d, same, at, few, g.few)
