-- The list that a test denotes has just its pairs, in order.
use Rattle.fixed_worth.proofs.Common.{cases_Bool, false_from_ne_true, ◌≡◌, ℕ, zero, suc, ◌<◌, ◌-◌, ◌++◌, ◌∙◌, Bool, inl}
use Rattle.fixed_worth.proofs.Common.{inr, IsTrue, Contains, length, get_or, sym, subst, ap, refl, arith}
use Rattle.fixed_worth.proofs.Common.{Contains-append_left, Contains-append_right, Contains-get_or, length-map}
use Rattle.fixed_worth.proofs.Common.{get_or-map, get_or_default, cases_lt, cases_eq, get_or_append_left}
use Rattle.fixed_worth.proofs.Common.{get_or-append_right, length-append}
use Rattle.prec_file.specs.Rests.{has_pair, numbers_passing, IsKnown, Before}
use Rattle.prec_file.proofs.Passing.{passing_at, passing_here, passing_after, passing_grows}
use Rattle.places.specs.Prelude.{PrecedenceView, IsPrecedence, block_pairs, pairs_below, implied, IsImplied}
use Rattle.prec_file.proofs.Pairs.{rests_of_pair, pair_of_rests}

-- a pair of a row
pub in_row : (t : ℕ → ℕ → Bool) (n b p : ℕ) → p < n → IsTrue (t b p) → Contains (block_pairs t n b) (b, p)
in_row t n b p l h =
    let i = length (numbers_passing (t b) p) in
    let inside : i < length (block_pairs t n b) = omega
    (arith, passing_after (t b) p n l h, length-map {B = ℕ × ℕ} (numbers_passing (t b) n) (λ q. (b, q))) in
    subst (Contains (block_pairs t n b))
    (get_or-map (λ q. (b, q)) (numbers_passing (t b) n) i 0 (0, 0) (passing_after (t b) p n l h)
    ∙ ap (λ q. (b, q)) (passing_here (t b) p n l h)) (Contains-get_or (block_pairs t n b) i (0, 0) inside)

record RowPlace (t : ℕ → ℕ → Bool) (n b i : ℕ) : Type 0 where
  other : ℕ
  is : get_or (block_pairs t n b) i (0, 0) ≡ (b, other)
  below : other < n
  passes : IsTrue (t b other)
  place : length (numbers_passing (t b) other) ≡ i

-- what stands at a place of a row
row_at : (t : ℕ → ℕ → Bool) (n b i : ℕ) → i < length (block_pairs t n b) → RowPlace t n b i
row_at t n b i l =
    let inside : i < length (numbers_passing (t b) n) = omega
    (arith, l, length-map {B = ℕ × ℕ} (numbers_passing (t b) n) (λ q. (b, q))) in
    let at = passing_at (t b) n i inside in
    record {
      other = get_or (numbers_passing (t b) n) i 0;
      is = get_or-map (λ q. (b, q)) (numbers_passing (t b) n) i 0
          (0, 0) inside;
      below = at.below;
      passes = at.passes;
      place = at.place;
    }

-- the test's pairs are in the list
pub held_below : (t : ℕ → ℕ → Bool) (n m b p : ℕ) → b < m → p < n → IsTrue (t b p) → Contains (pairs_below t n m) (b, p)
held_below t n zero b p l k h = absurd (omega arith)
held_below t n (suc m) b p l k h = elim (cases_eq b m) [
  | inl e ↦ Contains-append_right (pairs_below t n m) (block_pairs t n m) (b, p)
      (subst (λ c. Contains (block_pairs t n c) (b, p)) e (in_row t n b p k h))
  | inr d ↦ Contains-append_left (pairs_below t n m) (block_pairs t n m) (b, p) (held_below t n m b p (omega arith) k h)
]

pub record IsOf (t : ℕ → ℕ → Bool) (n m : ℕ) (q : ℕ × ℕ) : Type 0 where
  pub block : q.0 < m
  pub predecessor : q.1 < n
  pub passes : IsTrue (t q.0 q.1)

-- and no other
pub only_below : (t : ℕ → ℕ → Bool) (n m i : ℕ) → i < length (pairs_below t n m)
    → IsOf t n m (get_or (pairs_below t n m) i (0, 0))
only_below t n zero i l = absurd (omega arith)
only_below t n (suc m) i l = elim (cases_lt i (length (pairs_below t n m))) [
  | inl k ↦
      let r = only_below t n m i k in
      subst (IsOf t n (suc m)) (sym (get_or_append_left (pairs_below t n m) (block_pairs t n m) (0, 0) i k))
      (record { block = omega (arith, r.block); predecessor = r.predecessor; passes = r.passes })
  | inr k ↦
      let at = row_at t n m (i - length (pairs_below t n m))
      (omega (arith, l, length-append (pairs_below t n m) (block_pairs t n m))) in
      subst (IsOf t n (suc m))
      (sym (get_or-append_right (pairs_below t n m) (block_pairs t n m) (length (pairs_below t n m)) i
      (0, 0) refl k ∙ at.is)) (record { block = omega arith; predecessor = at.below; passes = at.passes })
]

-- a pair of the list is one of the test
of_pair : (t : ℕ → ℕ → Bool) (n m b p : ℕ) → Contains (pairs_below t n m) (b, p) → IsTrue (t b p)
of_pair t n m b p c =
    let e : get_or (pairs_below t n m) c.0 (0, 0) ≡ (b, p) = get_or_default (pairs_below t n m) c.0 (0, 0) (b, p) c.1
    ∙ c.2 in
    (subst (IsOf t n m) e (only_below t n m c.0 c.1)).passes

-- the list rises
rises_in : (t : ℕ → ℕ → Bool) (n b i j : ℕ) → i < j → j < length (block_pairs t n b)
    → Before (get_or (block_pairs t n b) i (0, 0)) (get_or (block_pairs t n b) j (0, 0))
rises_in t n b i j l k =
    let x = row_at t n b i (omega (arith, l, k)) in
    let y = row_at t n b j k in
    let less : x.other < y.other = elim (cases_lt x.other y.other) [
      | inl h ↦ h
      | inr h ↦ absurd (omega (arith, l, x.place, y.place, passing_grows (t b) y.other x.other h))
    ] in
    subst (λ q. Before q (get_or (block_pairs t n b) j (0, 0))) (sym x.is)
    (subst (Before (b, x.other)) (sym y.is) (inr (refl, less)))

rises_below : (t : ℕ → ℕ → Bool) (n m i j : ℕ) → i < j → j < length (pairs_below t n m)
    → Before (get_or (pairs_below t n m) i (0, 0)) (get_or (pairs_below t n m) j (0, 0))
rises_below t n zero i j l k = absurd (omega arith)
rises_below t n (suc m) i j l k =
    let xs = pairs_below t n m in
    let ys = block_pairs t n m in
    elim (cases_lt j (length xs)) [
      | inl h ↦ subst (λ q. Before q (get_or (xs ++ ys) j (0, 0)))
          (sym (get_or_append_left xs ys (0, 0) i (omega (arith, l, h))))
          (subst (Before (get_or xs i (0, 0))) (sym (get_or_append_left xs ys (0, 0) j h)) (rises_below t n m i j l h))
      | inr h ↦
          let lagged : j - length xs < length ys = omega (arith, h, k, length-append xs ys) in
          let y = row_at t n m (j - length xs) lagged in
          let at_j = get_or-append_right xs ys (length xs) j (0, 0) refl h in
          elim (cases_lt i (length xs)) [
            | inl g ↦ subst (λ q. Before q (get_or (xs ++ ys) j (0, 0))) (sym (get_or_append_left xs ys (0, 0) i g))
                (subst (Before (get_or xs i (0, 0))) (sym (at_j ∙ y.is)) (inl ((only_below t n m i g).block)))
            | inr g ↦ subst (λ q. Before q (get_or (xs ++ ys) j (0, 0)))
                (sym (get_or-append_right xs ys (length xs) i (0, 0) refl g))
                (subst (Before (get_or ys (i - length xs) (0, 0))) (sym at_j)
                (rises_in t n m (i - length xs) (j - length xs) (omega (arith, l, g)) lagged))
          ]
    ]

pub implied_is : (v : PrecedenceView) → IsPrecedence v → IsImplied v (implied v)
implied_is v h = record {
  pairs = record {
    blocks = h.few;
    known = λ i d l. let q = only_below v.rests v.blocks v.blocks i l in subst (IsKnown v.blocks)
        (get_or_default (pairs_below v.rests v.blocks v.blocks) i (0, 0) d l) (q.block, q.predecessor);
    rising = record { rises = rises_below v.rests v.blocks v.blocks };
    apart = λ p c e. h.apart p.0
        (subst (λ x. IsTrue (v.rests p.0 x)) (sym e) (of_pair v.rests v.blocks v.blocks p.0 p.1 c));
  };
  held = λ b p t. let k = h.known b p t in held_below v.rests v.blocks v.blocks b p k.0 k.1 t;
  only = λ b p c. of_pair v.rests v.blocks v.blocks b p c;
}

-- whether one rests on another is whether the list has the pair
pub same_test : (v : PrecedenceView) → IsPrecedence v → (b p : ℕ) → v.rests b p ≡ has_pair (implied v).pairs b p
same_test v h b p = elim (cases_Bool (v.rests b p)) [
  | inl t ↦ t ∙ sym (rests_of_pair (implied v).pairs b p ((implied_is v h).held b p t))
  | inr f ↦ f ∙ sym (false_from_ne_true (has_pair (implied v).pairs b p)
      (λ t. absurd (cc (f, (implied_is v h).only b p (pair_of_rests (implied v).pairs b p t)))))
]
