-- The pairs of a block in order are those to which its ways lead; and those of all blocks are the list of a precedence.
use Rattle.fixed_worth.proofs.Common.{◌≡◌, ℕ, zero, suc, ◌+◌, ◌<◌, ◌≤◌, ◌++◌, Bool, inl, inr, IsTrue, All, Contains}
use Rattle.fixed_worth.proofs.Common.{List, length, get_or, refl, sym, ap, ◌∙◌, subst, arith, cases_eq, cases_lt}
use Rattle.fixed_worth.proofs.Common.{length-map, get_or-map, get_or_default, length-append, Contains-get_or}
use Rattle.fixed_worth.proofs.Common.{Contains-append_left, Contains-push, Contains-push_cases, Option, Some, None, []}
use Rattle.fixed_worth.proofs.Common.{◌∷◌}
use Rattle.prec_file.specs.Rests.{RestsView, IsRests, IsKnown, Before, IsRising, numbers_passing, has_pair}
use Rattle.prec_file.proofs.Passing.{passing_at, passing_grows, passing_most}
use Rattle.prec_file.proofs.Pairs.{rests_of_pair, pair_of_rests}
use Rattle.prec_file.proofs.OneListing.{one_listing}
use Rattle.prec_file.proofs.SortedApart.{own_pairs}
use Rattle.places.specs.Prelude.{PrecedenceView, IsPrecedence, block_pairs, pairs_below, implied}
use Rattle.places.proofs.ImpliedPairs.{in_row, implied_is}
use Rattle.design_value.specs.Reached.{AreReached}

pub row_length : (t : ℕ → ℕ → Bool) (n b : ℕ) → length (block_pairs t n b) ≡ length (numbers_passing (t b) n)
row_length t n b = length-map {B = ℕ × ℕ} (numbers_passing (t b) n) (λ p. (b, p))

pub row_most : (t : ℕ → ℕ → Bool) (n b : ℕ) → length (block_pairs t n b) ≤ n
row_most t n b = omega (arith, row_length t n b, passing_most (t b) n)

row_place : (t : ℕ → ℕ → Bool) (n b i : ℕ) → i < length (block_pairs t n b)
    → get_or (block_pairs t n b) i (0, 0) ≡ (b, get_or (numbers_passing (t b) n) i 0)
row_place t n b i l = get_or-map (λ p. (b, p)) (numbers_passing (t b) n) i 0 (0, 0) (omega (arith, l, row_length t n b))

-- a pair of a row
pub record IsOfRow (t : ℕ → ℕ → Bool) (n b : ℕ) (q : ℕ × ℕ) : Type 0 where
  pub block : q.0 ≡ b
  pub below : q.1 < n
  pub passes : IsTrue (t b q.1)

pub of_row : (t : ℕ → ℕ → Bool) (n b : ℕ) (q : ℕ × ℕ) → Contains (block_pairs t n b) q → IsOfRow t n b q
of_row t n b q c =
    let e : get_or (block_pairs t n b) c.0 (0, 0) ≡ q = get_or_default (block_pairs t n b) c.0 (0, 0) q c.1 ∙ c.2 in
    let at = passing_at (t b) n c.0 (omega (arith, c.1, row_length t n b)) in
    subst (IsOfRow t n b) (sym (row_place t n b c.0 c.1) ∙ e)
    (record { block = refl; below = at.below; passes = at.passes })

-- both blocks of each pair are known
pub row_known : (t : ℕ → ℕ → Bool) (n b : ℕ) → b < n → All (IsKnown n) (block_pairs t n b)
row_known t n b l k d h =
    let o = of_row t n b (get_or (block_pairs t n b) k d) (Contains-get_or (block_pairs t n b) k d h) in
    (omega (arith, l, o.block), o.below)

numbers_rise : (test : ℕ → Bool) (n i j : ℕ) → i < j → j < length (numbers_passing test n)
    → get_or (numbers_passing test n) i 0 < get_or (numbers_passing test n) j 0
numbers_rise test n i j l k =
    let a = get_or (numbers_passing test n) i 0 in
    let b = get_or (numbers_passing test n) j 0 in
    let x = passing_at test n i (omega (arith, l, k)) in
    let y = passing_at test n j k in
    elim (cases_lt a b) [
      | inl h ↦ h
      | inr h ↦ absurd (omega (arith, l, x.place, y.place, passing_grows test b a h))
    ]

row_rises : (t : ℕ → ℕ → Bool) (n b : ℕ) → IsRising (block_pairs t n b)
row_rises t n b = record {
  rises = λ i j l k.
      let row = block_pairs t n b in
      let up = numbers_rise (t b) n i j l (omega (arith, k, row_length t n b)) in
      subst (λ (q : ℕ × ℕ). Before q (get_or row j (0, 0))) (sym (row_place t n b i (omega (arith, l, k))))
      (subst (Before (b, get_or (numbers_passing (t b) n) i 0)) (sym (row_place t n b j k)) (inr (refl, up)));
}

module _ (v : PrecedenceView) (i : IsPrecedence v) (b : ℕ) (l : b < v.blocks) (xs ys : List (ℕ × ℕ))
    (r : AreReached v b (v.ways b) xs) (held : (q : ℕ × ℕ) → Contains xs q → Contains ys q)
    (only : (q : ℕ × ℕ) → Contains ys q → Contains xs q) where
  abbrev row : List (ℕ × ℕ)
  row = block_pairs v.rests v.blocks b

  in_it : (q : ℕ × ℕ) → Contains ys q → Contains row q
  in_it q c =
      let w = r.only q (only q c) in
      let t = i.sound b q.1 w.0 l (record { inside = w.1; there = w.3 }) in
      subst (λ (x : ℕ). Contains row (x, q.1)) (sym w.2) (in_row v.rests v.blocks b q.1 (i.known b q.1 t).1 t)

  of_it : (q : ℕ × ℕ) → Contains row q → Contains ys q
  of_it q c =
      let o = of_row v.rests v.blocks b q c in
      let w = i.found b q.1 o.passes in
      subst (λ (x : ℕ). Contains ys (x, q.1)) (sym o.block) (held (b, q.1) (r.found q.1 w.0 w.1.inside w.1.there))

  apart_in : (q : ℕ × ℕ) → Contains row q → q.0 ≡ q.1 → ⊥
  apart_in q c e = let o = of_row v.rests v.blocks b q c in i.apart b
      (subst (λ (x : ℕ). IsTrue (v.rests b x)) (sym e ∙ o.block) o.passes)

  -- what the ways lead to, in order, is the block's row
  pub same_row : IsRising ys → ys ≡ row
  same_row up =
      one_listing ys ys row
      (record { rising = up; held = λ q c d. c; only = λ q c. (c, apart_in q (in_it q c)) })
      (record {
        rising = row_rises v.rests v.blocks b;
        held = λ q c d. in_it q c;
        only = λ q c.
            (of_it q c, apart_in q c);
      })

-- the pairs of fewer blocks are no more
pub below_grows : (t : ℕ → ℕ → Bool) (n m k : ℕ) → m ≤ k → length (pairs_below t n m) ≤ length (pairs_below t n k)
below_grows t n m zero h = let e : m ≡ 0 = omega arith in let P : ℕ
    → Type 0 = λ i. length (pairs_below t n i) ≤ 0 in subst P (sym e) (omega arith)
below_grows t n m (suc k) h = elim (cases_eq m (suc k)) [
  | inl e ↦ let P : ℕ → Type 0 = λ i. length (pairs_below t n m) ≤ length (pairs_below t n i) in subst P e (omega arith)
  | inr d ↦ omega (arith, below_grows t n m k (omega arith), length-append (pairs_below t n k) (block_pairs t n k))
]

-- pairs that have the test of a precedence are its list
pub same_list : (v : PrecedenceView) (r : RestsView) → IsPrecedence v → IsRests r
    → ((b p : ℕ) → v.rests b p ≡ has_pair r.pairs b p) → (implied v).pairs ≡ r.pairs
same_list v r i h same =
    let all = implied_is v i in
    one_listing r.pairs (implied v).pairs r.pairs
    (record {
      rising = all.pairs.rising;
      held = λ q c d. all.held q.0 q.1 (subst IsTrue (sym (same q.0 q.1)) (rests_of_pair r.pairs q.0 q.1 c));
      only = λ q c. (
        pair_of_rests r.pairs q.0 q.1 (subst IsTrue (same q.0 q.1) (all.only q.0 q.1 c)),
        all.pairs.apart
            q c,
      );
    })
    (own_pairs r.pairs h.rising h.apart)

-- ---- the ways of a block, one by one

pub reached_none : (v : PrecedenceView) (b : ℕ) → AreReached v b 0 []
reached_none v b = record {
  found = λ p k l e. absurd (omega (arith, l));
  only = λ q c. absurd (omega (arith, c.1));
}

one_way : (p r : ℕ) → Some p ≡ Some r → p ≡ r
one_way p r e = cc

pub reached_pair : (v : PrecedenceView) (b k p : ℕ) (xs : List (ℕ × ℕ)) → v.way b k ≡ Some p → AreReached v b k xs
    → AreReached v b (k + 1) (xs ++ (b, p) ∷ [])
reached_pair v b k p xs w a = record {
  found = λ r j l e. elim (cases_eq j k) [
    | inl s ↦ subst (λ (t : ℕ). Contains (xs ++ (b, p) ∷ []) (b, t)) (one_way p r (sym w ∙ ap (v.way b) (sym s) ∙ e))
        (Contains-push xs (b, p))
    | inr d ↦ Contains-append_left xs ((b, p) ∷ []) (b, r) (a.found r j (omega (arith, l, d)) e)
  ];
  only = λ q c. elim (Contains-push_cases xs (b, p) q c) [
    | inl h ↦ let o = a.only q h in (o.0, omega (arith, o.1), o.2, o.3)
    | inr e ↦ (k, omega arith, sym (ap (λ (x : ℕ × ℕ). x.0) e), w ∙ ap (λ (x : ℕ × ℕ). Some x.1) e)
  ];
}

not_some : (p : ℕ) (o : Option ℕ) → o ≡ None → o ≡ Some p → ⊥
not_some p o e f = cc

pub reached_nothing : (v : PrecedenceView) (b k : ℕ) (xs : List (ℕ × ℕ)) → v.way b k ≡ None → AreReached v b k xs
    → AreReached v b (k + 1) xs
reached_nothing v b k xs w a = record {
  found = λ r j l e. elim (cases_eq j k) [
    | inl s ↦ absurd (not_some r (v.way b j) (ap (v.way b) s ∙ w) e)
    | inr d ↦ a.found r j (omega (arith, l, d)) e
  ];
  only = λ q c. let o = a.only q c in (o.0, omega (arith, o.1), o.2, o.3);
}
