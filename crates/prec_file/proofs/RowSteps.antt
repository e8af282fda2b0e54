-- The next block's pairs after those of the blocks before it.
use Rattle.fixed_worth.proofs.Common.{◌≡◌, ℕ, zero, suc, ◌+◌, ◌-◌, ◌<◌, ◌≤◌, Bool, nat_lt, inl, inr, List, [], ◌∷◌}
use Rattle.fixed_worth.proofs.Common.{◌++◌, length, get_or, map, sym, refl, ap, subst, ◌∙◌, arith, length-append, All}
use Rattle.fixed_worth.proofs.Common.{Contains, cases_lt, get_or_append_left, get_or-append_right, get_or_push}
use Rattle.fixed_worth.proofs.Common.{length-map, map-append, All-append, All-weaker, All-contains, All-contains_itself}
use Rattle.fixed_worth.proofs.Common.{Contains-append_cases, common_steps}
use Rattle.prec_file.specs.declared.limits.TheConstants.{MOST_PAIRS}
use Rattle.fixed_worth.specs.declared.limits.TheConstants.{MOST_BLOCKS}
use Rattle.prec_file.specs.Prelude.{numbers_passing, count_ending_below, from_at, Before, IsRising, AreApart, IsKnown}
use Rattle.prec_file.specs.Prelude.{IsOfBlock, IsRests, ArePairsOf, IsStarts, AreRows, pairs_by}
use Rattle.prec_file.proofs.Passing.{passing_between}
use Rattle.prec_file.proofs.Slots.{ending_all}
use Rattle.prec_file.proofs.Rows.{pairs_are}
use Rattle.prec_file.proofs.Order.{lt_false}

pub passing_same : (test other : ℕ → Bool) (m : ℕ) → ((k : ℕ) → k < m → test k ≡ other k)
    → numbers_passing test m ≡ numbers_passing other m
passing_same test other zero h = refl
passing_same test other (suc m) h = grind (arith, common_steps, (passing_same test other m (λ k l. h k (omega arith))))

-- what rows tell
pub rows_told : (n next : ℕ) (ps : List (ℕ × ℕ)) (firsts predecessors : List ℕ)
    → AreRows n next ps firsts predecessors → pairs_by firsts predecessors ≡ ps
rows_told n next ps firsts predecessors h = pairs_are ps h.rests.rising next firsts predecessors h.firsts
    h.predecessors h.listed

-- as many predecessors as pairs
pub rows_length : (n next : ℕ) (ps : List (ℕ × ℕ)) (firsts predecessors : List ℕ)
    → AreRows n next ps firsts predecessors → length predecessors ≡ length ps
rows_length n next ps firsts predecessors h = ap length h.predecessors ∙ length-map ps (λ (p : ℕ × ℕ). p.1)

module _ (n next : ℕ) (ps row : List (ℕ × ℕ)) (firsts predecessors : List ℕ)
    (h : AreRows n next ps firsts predecessors) (within : next < n)
    (few : length ps + length row ≤ MOST_PAIRS) (r : IsRising row) (a : AreApart row)
    (own : All (IsOfBlock n next) row) where
  size : length (ps ++ row) ≡ length ps + length row
  size = length-append ps row

  old_at : (k : ℕ) → k < length ps → get_or (ps ++ row) k (0, 0) ≡ get_or ps k (0, 0)
  old_at k l = get_or_append_left ps row (0, 0) k l

  new_at : (k : ℕ) → length ps ≤ k → get_or (ps ++ row) k (0, 0) ≡ get_or row (k - length ps) (0, 0)
  new_at k l = get_or-append_right ps row (length ps) k (0, 0) refl l

  old_from : (k : ℕ) → k < length ps → from_at (ps ++ row) k < next
  old_from k l = let e = ap (λ (p : ℕ × ℕ). p.0) (old_at k l) in let b = h.listed k l in omega arith

  new_from : (k : ℕ) → length ps ≤ k → k < length (ps ++ row) → from_at (ps ++ row) k ≡ next
  new_from k l m = ap (λ (p : ℕ × ℕ). p.0) (new_at k l) ∙ (own (k - length ps) (0, 0) (omega (arith, size))).0

  risen : (i j : ℕ) → i < j → j < length (ps ++ row)
      → Before (get_or (ps ++ row) i (0, 0)) (get_or (ps ++ row) j (0, 0))
  risen i j l m = elim (cases_lt j (length ps)) [
    | inl o ↦
        subst (λ x. Before x (get_or (ps ++ row) j (0, 0))) (sym (old_at i (omega arith)))
        (subst (Before (get_or ps i (0, 0))) (sym (old_at j o)) (h.rests.rising.rises i j l o))
    | inr o ↦ elim (cases_lt i (length ps)) [
      | inl u ↦ let b = old_from i u in let e = new_from j o m in inl (omega arith)
      | inr u ↦
          subst (λ x. Before x (get_or (ps ++ row) j (0, 0))) (sym (new_at i u))
          (subst (Before (get_or row (i - length ps) (0, 0))) (sym (new_at j o))
          (r.rises (i - length ps) (j - length ps) (omega arith) (omega (arith, size))))
    ]
  ]

  most_more : length (ps ++ row) ≤ MOST_PAIRS
  most_more = omega (arith, size, few)

  rests_more : IsRests (record { blocks = n; pairs = ps ++ row })
  rests_more = record {
    blocks = h.rests.blocks;
    few = omega (arith, most_more);
    known = All-append (IsKnown n) ps row h.rests.known
        (All-weaker (IsOfBlock n next) (IsKnown n) (λ p k. let e = k.0 in (omega arith, k.1)) row own);
    rising = record { rises = risen };
    apart = λ p k e. elim (Contains-append_cases ps row p k) [ inl c ↦ h.rests.apart p c e | inr c ↦ a p c e ];
  }

  -- pairs of the next block are after those of the blocks before it
  below_same : (b : ℕ) → b ≤ next → count_ending_below (from_at ps) b (length ps) ≡ count_ending_below
      (from_at (ps ++ row)) b (length (ps ++ row))
  below_same b l =
      let old = passing_same (λ k. nat_lt (from_at ps k) b) (λ k. nat_lt (from_at (ps ++ row) k) b) (length ps)
      (λ k m. ap (λ (p : ℕ × ℕ). nat_lt p.0 b) (sym (old_at k m))) in
      let none = passing_between (λ k. nat_lt (from_at (ps ++ row) k) b) (length ps) (length (ps ++ row))
      (omega (arith, size)) (λ k m i. let e = new_from k m i in lt_false (from_at (ps ++ row) k) b (omega arith)) in
      ap length old ∙ sym none

  listed_more : (k : ℕ) → k < length (ps ++ row) → from_at (ps ++ row) k < next + 1
  listed_more k l = grind (arith, common_steps)

  starts_more : IsStarts (from_at (ps ++ row)) (length (ps ++ row)) (next + 1) (firsts ++ length (ps ++ row) ∷ [])
  starts_more =
      let old_size = h.firsts.size in
      record {
        size = omega (arith, old_size, length-append firsts (length (ps ++ row) ∷ []));
        at = λ b l. elim (cases_lt b (next + 1)) [
          | inl o ↦ get_or_append_left firsts (length (ps ++ row) ∷ []) 0 b (omega (arith, old_size))
              ∙ h.firsts.at b (omega arith) ∙ below_same b (omega arith)
          | inr o ↦
              let last : b ≡ length firsts = omega (arith, old_size) in
              let P : ℕ → Type 0 = λ c. get_or (firsts ++ length (ps ++ row) ∷ []) c 0 ≡ length (ps ++ row) in
              subst P (sym last) (get_or_push firsts (length (ps ++ row)) 0 (length firsts) refl)
              ∙ sym (ending_all (from_at (ps ++ row)) b (length (ps ++ row))
              (λ k m. let u = listed_more k m in omega arith))
        ];
      }

  -- the lists as they were written
  pub pushed : (begun listed : List ℕ) (count : ℕ) → begun ≡ firsts ++ count ∷ []
      → listed ≡ predecessors ++ map (λ p. p.1) row → count ≡ length listed
      → AreRows n (next + 1) (ps ++ row) begun listed
  pushed begun listed count f p e = grind (
    arith,
    common_steps,
    length-append,
    length-map,
    rows_length,
    size,
    rests_more,
    most_more,
    listed_more,
    map-append,
    starts_more,
  )

  pub pushed_told : (begun listed : List ℕ) (count : ℕ) → begun ≡ firsts ++ count ∷ []
      → listed ≡ predecessors ++ map (λ p. p.1) row → count ≡ length listed → pairs_by begun listed ≡ ps ++ row
  pushed_told begun listed count f p e = rows_told n (next + 1) (ps ++ row) begun listed
      (pushed begun listed count f p e)

  pub pushed_rows : (begun listed : List ℕ) (count : ℕ) → begun ≡ firsts ++ count ∷ []
      → listed ≡ predecessors ++ map (λ p. p.1) row → count ≡ length listed
      → AreRows n (next + 1) (pairs_by begun listed) begun listed
  pushed_rows begun listed count f p e = grind (arith, common_steps, pushed_told, pushed)

-- the pairs of a row are of its block
pub own_kept : (n b : ℕ) (listed row : List (ℕ × ℕ)) → ArePairsOf listed row → All (IsOfBlock n b) listed
    → All (IsOfBlock n b) row
own_kept n b listed row s h = All-weaker (Contains row) (IsOfBlock n b)
    (λ p c. All-contains (IsOfBlock n b) listed p h ((s.only p c).0)) row (All-contains_itself row)

-- the lists at first
pub none_pushed : (n : ℕ) (begun listed : List ℕ) → n ≤ MOST_BLOCKS → begun ≡ 0 ∷ [] → listed ≡ []
    → AreRows n 0 (pairs_by begun listed) begun listed
none_pushed n begun listed h f p = grind (arith, common_steps)
