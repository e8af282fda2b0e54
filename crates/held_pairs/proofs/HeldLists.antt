-- The list of the pairs that ways lead to is that of a precedence.
use Rattle.fixed_worth.proofs.Common.{◌≡◌, ℕ, ◌+◌, ◌<◌, inl, inr, IsTrue, All, Contains, List, [], ◌∷◌, ◌++◌, Option}
use Rattle.fixed_worth.proofs.Common.{Some, None, get_or, sym, ap, ◌∙◌, subst, arith, cases_eq, Contains-append_left}
use Rattle.fixed_worth.proofs.Common.{Contains-push, Contains-push_cases, Contains-get_or}
use Rattle.prec_file.specs.Rests.{RestsView, IsKnown, IsRests, ArePairsOf, has_pair}
use Rattle.prec_file.proofs.Pairs.{rests_of_pair, pair_of_rests}
use Rattle.prec_file.proofs.OneListing.{one_listing}
use Rattle.places.specs.Ways.{PrecedenceView, IsPrecedence}
use Rattle.held_pairs.specs.HeldLists.{AddsWays, ListsBelow}

pub adds_none : (v : PrecedenceView) (b : ℕ) (ps : List (ℕ × ℕ)) → AddsWays v b 0 ps ps
adds_none v b ps = record {
  kept = λ q c. c;
  found = λ p k l e. absurd (omega (arith, l));
  only = λ q c. inl c;
}

one_way : (p r : ℕ) → Some p ≡ Some r → p ≡ r
one_way p r e = cc

pub adds_pair : (v : PrecedenceView) (b k p : ℕ) (old xs : List (ℕ × ℕ)) → AddsWays v b k old xs → v.way b k ≡ Some p
    → AddsWays v b (k + 1) old (xs ++ (b, p) ∷ [])
adds_pair v b k p old xs a w = record {
  kept = λ q c. Contains-append_left xs ((b, p) ∷ []) q (a.kept q c);
  found = λ r j l e. elim (cases_eq j k) [
    | inl s ↦ subst (λ (t : ℕ). Contains (xs ++ (b, p) ∷ []) (b, t)) (one_way p r (sym w ∙ ap (v.way b) (sym s) ∙ e))
        (Contains-push xs (b, p))
    | inr d ↦ Contains-append_left xs ((b, p) ∷ []) (b, r) (a.found r j (omega (arith, l, d)) e)
  ];
  only = λ q c. elim (Contains-push_cases xs (b, p) q c) [
    | inl h ↦ elim (a.only q h) [
      | inl o ↦ inl o
      | inr o ↦ inr (o.0, omega (arith, o.1), o.2, o.3)
    ]
    | inr e ↦ inr (k, omega arith, sym (ap (λ (x : ℕ × ℕ). x.0) e), w ∙ ap (λ (x : ℕ × ℕ). Some x.1) e)
  ];
}

not_some : (p : ℕ) (o : Option ℕ) → o ≡ None → o ≡ Some p → ⊥
not_some p o e f = cc

pub adds_nothing : (v : PrecedenceView) (b k : ℕ) (old xs : List (ℕ × ℕ)) → AddsWays v b k old xs → v.way b k ≡ None
    → AddsWays v b (k + 1) old xs
adds_nothing v b k old xs a w = record {
  kept = a.kept;
  found = λ r j l e. elim (cases_eq j k) [
    | inl s ↦ absurd (not_some r (v.way b j) (ap (v.way b) s ∙ w) e)
    | inr d ↦ a.found r j (omega (arith, l, d)) e
  ];
  only = λ q c. elim (a.only q c) [
    | inl o ↦ inl o
    | inr o ↦ inr (o.0, omega (arith, o.1), o.2, o.3)
  ];
}

pub lists_none : (v : PrecedenceView) → ListsBelow v 0 []
lists_none v = record {
  found = λ b p l h. absurd (omega (arith, l));
  only = λ q c. absurd (omega (arith, c.1));
}

pub lists_row : (v : PrecedenceView) (m : ℕ) (old new : List (ℕ × ℕ)) → IsPrecedence v → m < v.blocks
    → ListsBelow v m old → AddsWays v m (v.ways m) old new → ListsBelow v (m + 1) new
lists_row v m old new i l a r = record {
  found = λ b p k h. elim (cases_eq b m) [
    | inl s ↦
        let t = subst (λ (x : ℕ). IsTrue (v.rests x p)) s h in
        let w = i.found m p t in
        subst (λ (x : ℕ). Contains new (x, p)) (sym s) (r.found p w.0 w.1.inside w.1.there)
    | inr d ↦ r.kept (b, p) (a.found b p (omega (arith, k, d)) h)
  ];
  only = λ q c. elim (r.only q c) [
    | inl o ↦ a.only q o
    | inr o ↦ subst (λ (x : ℕ). IsTrue (v.rests x q.1)) (sym o.2)
        (i.sound m q.1 o.0 l (record { inside = o.1; there = o.3 }))
  ];
}

-- each pair is of known blocks
pub all_known : (v : PrecedenceView) (m : ℕ) (ps : List (ℕ × ℕ)) → IsPrecedence v → ListsBelow v m ps
    → All (IsKnown v.blocks) ps
all_known v m ps i l k d h = let c = l.only (get_or ps k d) (Contains-get_or ps k d h) in i.known (get_or ps k d).0
    (get_or ps k d).1 c

-- in order they are the pairs that the precedence denotes
pub in_order : (v : PrecedenceView) (m : ℕ) (listed made : List (ℕ × ℕ)) (r : RestsView) → IsPrecedence v
    → ListsBelow v m listed → m ≡ v.blocks → ((b p : ℕ) → v.rests b p ≡ has_pair r.pairs b p) → IsRests r
    → ArePairsOf listed made → made ≡ r.pairs
in_order v m listed made r i l e same rests h =
    one_listing listed made r.pairs h
    (record {
      rising = rests.rising;
      held = λ q c apart. pair_of_rests r.pairs q.0 q.1 (subst IsTrue (same q.0 q.1) (l.only q c));
      only = λ q c.
          let t = subst IsTrue (sym (same q.0 q.1)) (rests_of_pair r.pairs q.0 q.1 c) in
          (l.found q.0 q.1 (omega (arith, e, (i.known q.0 q.1 t).0)) t, rests.apart q c);
    })
