-- The least block that a block rests on and that a set lacks, way by way; and that it is that of the first pair.
use Rattle.fixed_worth.proofs.Common.{◌≡◌, ℕ, ◌+◌, ◌<◌, ◌≤◌, Bool, true, false, inl, inr, IsTrue, IfSome, length}
use Rattle.fixed_worth.proofs.Common.{get_or, Option, Some, None, MatchOption, Contains, sym, subst, refl, ap, arith}
use Rattle.fixed_worth.proofs.Common.{cond, nat_lt, cond_both, cases_lt, lt-ltb, ltb-true, Contains-get_or}
use Rattle.fixed_worth.proofs.Common.{get_or_default, none-some, same_Some, true_from_ne_false, ◌∙◌}
use Rattle.prec_file.specs.Rests.{from_at, to_at}
use Rattle.places.specs.Prelude.{PrecedenceView, IsPrecedence, implied}
use Rattle.places.proofs.ImpliedPairs.{implied_is}
use Rattle.check_pit.specs.Closing.{HoldsAbove, IsLacking, HoldsEach, IsLeastLacking, lesser_number, least_with}

-- of the first k ways of b, p is the least block that the set lacks
pub record LeastBy (v : PrecedenceView) (e : ℕ → Bool) (b k p : ℕ) : Type 0 where
  pub way : ℕ
  pub inside : way < k
  pub there : v.way b way ≡ Some p
  pub lacks : e p ≡ false
  pub least : (j q : ℕ) → j < k → v.way b j ≡ Some q → e q ≡ false → p ≤ q

-- the least such block, if there is one
abbrev pub LeastSoFar : PrecedenceView → (ℕ → Bool) → ℕ → ℕ → Option ℕ → Type 0
LeastSoFar v e b k least = MatchOption least ((j q : ℕ) → j < k → v.way b j ≡ Some q → e q ≡ true) (LeastBy v e b k)

-- before the first way
pub none_yet : (v : PrecedenceView) (e : ℕ → Bool) (b : ℕ) → LeastSoFar v e b 0 None
none_yet v e b = λ j q l w. absurd (omega (arith, l))

module _ (v : PrecedenceView) (e : ℕ → Bool) (b k : ℕ) where
  -- a way at k leads where the way k does
  moved : (j q : ℕ) → j ≡ k → v.way b j ≡ Some q → v.way b k ≡ Some q
  moved j q same w = subst (λ (i : ℕ). v.way b i ≡ Some q) same w

  -- a way more, to no block or to one of the set
  step_same : (least : Option ℕ) → ((q : ℕ) → v.way b k ≡ Some q → e q ≡ true) → LeastSoFar v e b k least
      → LeastSoFar v e b (k + 1) least
  step_same None held h = λ j q l w. elim (cases_lt j k) [
    | inl m ↦ h j q m w
    | inr m ↦ let same : j ≡ k = omega arith in held q (moved j q same w)
  ]
  step_same (Some p) held h = record {
    way = h.way;
    inside = omega (arith, h.inside);
    there = h.there;
    lacks = h.lacks;
    least = λ j q l w off. elim (cases_lt j k) [
      | inl m ↦ h.least j q m w off
      | inr m ↦ let same : j ≡ k = omega arith in let on = held q (moved j q same w) in absurd (cc (off, on))
    ];
  }

  -- a way more, to a block that the set lacks
  step_less : (least : Option ℕ) (p : ℕ) → v.way b k ≡ Some p → e p ≡ false → LeastSoFar v e b k least
      → LeastBy v e b (k + 1) (lesser_number least p)
  step_less None p there lacks h = record {
    way = k;
    inside = omega arith;
    there = there;
    lacks = lacks;
    least = λ j q l w off. elim (cases_lt j k) [
      | inl m ↦ let on = h j q m w in absurd (cc (off, on))
      | inr m ↦ let same : j ≡ k = omega arith in let one : p ≡ q = same_Some p q (sym there ∙ moved j q same w) in
          omega (arith, one)
    ];
  }
  step_less (Some o) p there lacks h = cond_both (nat_lt o p) o p (LeastBy v e b (k + 1)) (λ less. record {
    way = h.way;
    inside = omega (arith, h.inside);
    there = h.there;
    lacks = h.lacks;
    least = λ j q l w off. elim (cases_lt j k) [
      | inl m ↦ h.least j q m w off
      | inr m ↦ let same : j ≡ k = omega arith in let one : p ≡ q = same_Some p q (sym there ∙ moved j q same w) in
          omega (arith, one, ltb-true o p less)
    ];
  }) (λ more. record {
    way = k;
    inside = omega arith;
    there = there;
    lacks = lacks;
    least = λ j q l w off. elim (cases_lt j k) [
      | inl m ↦ elim (cases_lt o p) [
        | inl less ↦ let on = lt-ltb o p less in absurd (cc (more, on))
        | inr other ↦ omega (arith, h.least j q m w off, other)
      ]
      | inr m ↦ let same : j ≡ k = omega arith in let one : p ≡ q = same_Some p q (sym there ∙ moved j q same w) in
          omega (arith, one)
    ];
  })

  step_at : (least : Option ℕ) (p : ℕ) (t : Bool) → e p ≡ t → v.way b k ≡ Some p → LeastSoFar v e b k least
      → LeastSoFar v e b (k + 1) (cond t least (Some (lesser_number least p)))
  step_at least p true on w h = step_same least (λ q i. subst (λ (x : ℕ). e x ≡ true) (same_Some p q (sym w ∙ i)) on) h
  step_at least p false off w h = step_less least p w off h

  -- a way more
  pub least_more : (least o : Option ℕ) → o ≡ v.way b k → LeastSoFar v e b k least
      → LeastSoFar v e b (k + 1) (least_with e least o)
  least_more least None is h = step_same least (λ q w. absurd (none-some q (is ∙ w))) h
  least_more least (Some p) is h = step_at least p (e p) refl (sym is) h

-- a way leads to a block
pub way_known : (v : PrecedenceView) (b k : ℕ) (o : Option ℕ) → IsPrecedence v → b < v.blocks → k < v.ways b
    → o ≡ v.way b k → IfSome o (λ p. p < v.blocks)
way_known v b k None h known l is = tt
way_known v b k (Some p) h known l is = (h.known b p (h.sound b p k known (record { inside = l; there = sym is }))).1

-- after all ways
pub least_told : (v : PrecedenceView) (e : ℕ → Bool) (b k : ℕ) (least : Option ℕ) → IsPrecedence v → b < v.blocks
    → k ≡ v.ways b → LeastSoFar v e b k least
    → MatchOption least (HoldsEach (v.rests b) e) (IsLeastLacking (v.rests b) e)
least_told v e b k None h known all s = λ p t. let w = h.found b p t in s w.0 p (omega (arith, w.1.inside, all))
    w.1.there
least_told v e b k (Some p) h known all s = record {
  passes = h.sound b p s.way known (record { inside = omega (arith, s.inside, all); there = s.there });
  lacks = λ t. absurd (cc (t, s.lacks));
  below = λ q l t. let w = h.found b q t in true_from_ne_false (e q)
      (λ off. absurd (omega (arith, s.least w.0 q (omega (arith, w.1.inside, all)) w.1.there off, l)));
}

module _ (v : PrecedenceView) (h : IsPrecedence v) (e : ℕ → Bool) (b : ℕ) where
  -- the block of each pair rests on its predecessor
  rests_of : (k : ℕ) → k < length (implied v).pairs → from_at (implied v).pairs k ≡ b
      → IsTrue (v.rests b (to_at (implied v).pairs k))
  rests_of k l own = (implied_is v h).only b (to_at (implied v).pairs k)
      (subst (λ (x : ℕ). Contains (implied v).pairs (x, to_at (implied v).pairs k)) own
      (Contains-get_or (implied v).pairs k (0, 0) l))

  each_above : HoldsEach (v.rests b) e → HoldsAbove (implied v).pairs e b
  each_above all k l own = all (to_at (implied v).pairs k) (rests_of k l own)

  least_lacks : (p : ℕ) → IsLeastLacking (v.rests b) e p → IsLacking (implied v).pairs e b p
  least_lacks p least =
      let c = (implied_is v h).held b p least.passes in
      let k = c.0 in
      let at : get_or (implied v).pairs k (0, 0) ≡ (b, p) = get_or_default (implied v).pairs k (0, 0) (b, p) c.1
      ∙ c.2 in
      let own : from_at (implied v).pairs k ≡ b = ap (λ (x : ℕ × ℕ). x.0) at in
      let to : to_at (implied v).pairs k ≡ p = ap (λ (x : ℕ × ℕ). x.1) at in (
        k,
        record {
          below = c.1;
          block = own;
          lacks = λ t. least.lacks (subst (λ (x : ℕ). IsTrue (e x)) to t);
          before = λ j m from. elim ((implied_is v h).pairs.rising.rises j k m c.1) [
            | inl less ↦ absurd (omega (arith, less, own, from))
            | inr more ↦ least.below (to_at (implied v).pairs j) (omega (arith, more.1, to))
                (rests_of j (omega (arith, m, c.1)) from)
          ];
        },
        to,
      )

  -- the least block that the set lacks is that of the first pair
  pub first_lacks : (o : Option ℕ) → MatchOption o (HoldsEach (v.rests b) e) (IsLeastLacking (v.rests b) e)
      → MatchOption o (HoldsAbove (implied v).pairs e b) (IsLacking (implied v).pairs e b)
  first_lacks None all = each_above all
  first_lacks (Some p) least = least_lacks p least
