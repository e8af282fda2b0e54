-- A schedule that breaks no pair and uses nowhere more than there is is feasible, and the other way round.
use Rattle.fixed_worth.proofs.Common.{◌≡◌, ◌↔◌, ℕ, zero, suc, ◌+◌, ◌<◌, ◌≤◌, ℤ, ◌≤ℤ◌, Bool, true, false, cond, ◌&&◌}
use Rattle.fixed_worth.proofs.Common.{nat_lt, List, [], ◌∷◌, ◌++◌, length, filter, refl, sym, ap, ◌∙◌, arith, ints, inl}
use Rattle.fixed_worth.proofs.Common.{inr, Contains, get_or, true≢false, false_from_ne_true, and_parts, and_from}
use Rattle.fixed_worth.proofs.Common.{cases_lt, cases_eq, ltb-true, lt-ltb}
use Rattle.std.specs.Prelude.{int_lt}
use Rattle.prec_file.specs.Rests.{has_pair}
use Rattle.prec_file.proofs.Pairs.{rests_of_pair, pair_of_rests}
use Rattle.schedules.specs.Prelude.{Production, KeepsPrecedence, IsFeasible, used_in}
use Rattle.schedule_value.specs.declared.usage.Over.{Over}
use Rattle.schedule_value.specs.Prelude.{KeepsLags, breaks, broken_pairs, is_over, over_at, over_if, overs_in_row}
use Rattle.schedule_value.specs.Prelude.{overs_in_rows}

-- ---- pairs

-- nothing passes a filter that leaves nothing
left_off : (t : Bool) (x : ℕ × ℕ) (ys : List (ℕ × ℕ)) → length (cond t (x ∷ ys) ys) ≡ 0 → (t ≡ false) × (length ys ≡ 0)
left_off true x ys h = absurd (omega (arith, h))
left_off false x ys h = (refl, h)

none_at : (test : ℕ × ℕ → Bool) (xs : List (ℕ × ℕ)) → length (filter test xs) ≡ 0 → (q : ℕ × ℕ) (k : ℕ)
    → k < length xs → test (get_or xs k q) ≡ true → ⊥
none_at test [] none q k l t = absurd (omega (arith, l))
none_at test (x ∷ xs) none q zero l t = true≢false (sym t ∙ (left_off (test x) x (filter test xs) none).0)
none_at test (x ∷ xs) none q (suc k) l t = none_at test xs (left_off (test x) x (filter test xs) none).1 q k
    (omega (arith, l)) t

none_pass : (test : ℕ × ℕ → Bool) (xs : List (ℕ × ℕ)) → length (filter test xs) ≡ 0 → (q : ℕ × ℕ) → Contains xs q
    → test q ≡ true → ⊥
none_pass test xs none q c t = none_at test xs none q c.0 c.1 (ap test c.2 ∙ t)

-- and where nothing passes nothing is left
none_left : (test : ℕ × ℕ → Bool) (xs : List (ℕ × ℕ)) → ((q : ℕ × ℕ) → Contains xs q → test q ≡ true → ⊥)
    → length (filter test xs) ≡ 0
none_left test [] none = refl
none_left test (x ∷ xs) none =
    let out : test x ≡ false = false_from_ne_true (test x) (λ t. none x (0, omega arith, refl) t) in
    rw out (none_left test xs (λ q c t. none q (suc c.0, (let l = c.1 in omega (arith, l)), c.2) t))

-- a pair that isn't broken
kept : (s p t : ℕ) → ((nat_lt s t && nat_lt s p) ≡ true → ⊥) → s < t → p ≤ s
kept s p t h l = elim (cases_lt s p) [
  | inl m ↦ absurd (h (and_from (nat_lt s t) (nat_lt s p) (lt-ltb s t l) (lt-ltb s p m)))
  | inr m ↦ m
]

-- ---- lists of periods that use more than they have

both_none : (xs ys : List Over) → xs ++ ys ≡ [] → (xs ≡ []) × (ys ≡ [])
both_none [] ys h = (refl, h)
both_none (x ∷ xs) ys h = absurd cc

none_from : (xs ys : List Over) → xs ≡ [] → ys ≡ [] → xs ++ ys ≡ []
none_from xs ys e f = rw (e, f) refl

not_listed : (t : Bool) (over : Over) → over_if t over ≡ [] → t ≡ false
not_listed true over h = absurd cc
not_listed false over h = refl

not_over : (x y : ℤ) → int_lt x y ≡ false → y ≤ℤ x
not_over x y h = grind (arith, ints)

over_not : (x y : ℤ) → y ≤ℤ x → int_lt x y ≡ false
over_not x y h = grind (arith, ints)

module _ (plan : Production) (schedule : ℕ → ℕ) where
  none_in_row : (r n : ℕ) → overs_in_row plan schedule r n ≡ [] → (t : ℕ) → t < n → is_over plan schedule r t ≡ false
  none_in_row r zero h t l = absurd (omega (arith, l))
  none_in_row r (suc n) h t l =
      let parts = both_none (overs_in_row plan schedule r n)
      (over_if (is_over plan schedule r n) (over_at plan schedule r n)) h in
      elim (cases_eq t n) [
        | inl i ↦ ap (is_over plan schedule r) i
            ∙ not_listed (is_over plan schedule r n) (over_at plan schedule r n) parts.1
        | inr d ↦ none_in_row r n parts.0 t (omega (arith, l, d))
      ]

  row_none : (r n : ℕ) → ((t : ℕ) → t < n → is_over plan schedule r t ≡ false) → overs_in_row plan schedule r n ≡ []
  row_none r zero h = refl
  row_none r (suc n) h =
      none_from (overs_in_row plan schedule r n) (over_if (is_over plan schedule r n) (over_at plan schedule r n))
      (row_none r n (λ t l. h t (omega (arith, l))))
      (ap (λ (t : Bool). over_if t (over_at plan schedule r n)) (h n (omega arith)))

  none_in_rows : (m : ℕ) → overs_in_rows plan schedule m ≡ [] → (r : ℕ) → r < m
      → overs_in_row plan schedule r plan.periods ≡ []
  none_in_rows zero h r l = absurd (omega (arith, l))
  none_in_rows (suc m) h r l =
      let parts = both_none (overs_in_rows plan schedule m) (overs_in_row plan schedule m plan.periods) h in
      elim (cases_eq r m) [
        | inl i ↦ ap (λ (k : ℕ). overs_in_row plan schedule k plan.periods) i ∙ parts.1
        | inr d ↦ none_in_rows m parts.0 r (omega (arith, l, d))
      ]

  rows_none : (m : ℕ) → ((r : ℕ) → r < m → overs_in_row plan schedule r plan.periods ≡ [])
      → overs_in_rows plan schedule m ≡ []
  rows_none zero h = refl
  rows_none (suc m) h =
      none_from (overs_in_rows plan schedule m) (overs_in_row plan schedule m plan.periods)
      (rows_none m (λ r l. h r (omega (arith, l)))) (h m (omega arith))

-- ---- feasible

module _ (plan : Production) (pairs : List (ℕ × ℕ)) (rests : (b p : ℕ) → plan.mine.rests b p ≡ has_pair pairs b p)
    (schedule : ℕ → ℕ) where
  feasible_from : length (broken_pairs 0 schedule plan.periods pairs) ≡ 0
      → overs_in_rows plan schedule plan.resources ≡ [] → IsFeasible plan schedule
  feasible_from none low = record {
    precedence = record {
      earlier = λ b p r l.
          let c = pair_of_rests pairs b p (sym (rests b p) ∙ r) in
          let low : 0 + schedule p ≤ schedule b = kept (schedule b) (0 + schedule p) plan.periods
          (none_pass (breaks 0 schedule plan.periods) pairs none (b, p) c) l in
          omega (arith, low);
    };
    capacities = λ r t k l. not_over (plan.capacity r t) (used_in plan schedule r t)
        (none_in_row plan schedule r plan.periods (none_in_rows plan schedule plan.resources low r k) t l);
  }

  broken_from : KeepsPrecedence plan schedule → length (broken_pairs 0 schedule plan.periods pairs) ≡ 0
  broken_from keeps = none_left (breaks 0 schedule plan.periods) pairs (λ q c t.
      let x = and_parts (nat_lt (schedule q.0) plan.periods) (nat_lt (schedule q.0) (0 + schedule q.1)) t in
      let l = ltb-true (schedule q.0) plan.periods x.0 in
      let m = ltb-true (schedule q.0) (0 + schedule q.1) x.1 in
      let before = keeps.earlier q.0 q.1 (rests q.0 q.1 ∙ rests_of_pair pairs q.0 q.1 c) l in
      omega (arith, m, before))

  over_from : IsFeasible plan schedule → overs_in_rows plan schedule plan.resources ≡ []
  over_from h = rows_none plan schedule plan.resources
      (λ r k. row_none plan schedule r plan.periods
      (λ t l. over_not (plan.capacity r t) (used_in plan schedule r t) (h.capacities r t k l)))

  pub feasible_iff : ((length (broken_pairs 0 schedule plan.periods pairs) ≡ 0)
      × (overs_in_rows plan schedule plan.resources ≡ [])) ↔ IsFeasible plan schedule
  feasible_iff = (λ x. feasible_from x.0 x.1, λ h. (broken_from h.precedence, over_from h))

-- ---- with blocks that wait

-- no pair is too early exactly where the lag is kept
module _ (periods lag : ℕ) (waits : List (ℕ × ℕ)) (schedule : ℕ → ℕ) where
  lags_from : length (broken_pairs lag schedule periods waits) ≡ 0 → KeepsLags periods lag (has_pair waits) schedule
  lags_from none = record {
    later = λ b a w l.
        let c = pair_of_rests waits b a w in
        kept (schedule b) (lag + schedule a) periods (none_pass (breaks lag schedule periods) waits none (b, a) c) l;
  }

  early_from : KeepsLags periods lag (has_pair waits) schedule → length (broken_pairs lag schedule periods waits) ≡ 0
  early_from keeps = none_left (breaks lag schedule periods) waits (λ q c t.
      let x = and_parts (nat_lt (schedule q.0) periods) (nat_lt (schedule q.0) (lag + schedule q.1)) t in
      let l = ltb-true (schedule q.0) periods x.0 in
      let m = ltb-true (schedule q.0) (lag + schedule q.1) x.1 in
      let before = keeps.later q.0 q.1 (rests_of_pair waits q.0 q.1 c) l in
      omega (arith, m, before))

pub lagged_iff : (plan : Production) (pairs : List (ℕ × ℕ)) → ((b p : ℕ) → plan.mine.rests b p ≡ has_pair pairs b p)
    → (schedule : ℕ → ℕ) (lag : ℕ) (waits : List (ℕ × ℕ))
    → ((length (broken_pairs 0 schedule plan.periods pairs) ≡ 0)
    × (length (broken_pairs lag schedule plan.periods waits) ≡ 0)
    × (overs_in_rows plan schedule plan.resources ≡ []))
    ↔ (IsFeasible plan schedule × KeepsLags plan.periods lag (has_pair waits) schedule)
lagged_iff plan pairs rests schedule lag waits =
    let iff = feasible_iff plan pairs rests schedule in (
      λ x. (iff.0 (x.0, x.2), lags_from plan.periods lag waits schedule x.1),
      λ h. let x = iff.1 h.0 in
          (x.0, early_from plan.periods lag waits schedule h.1, x.1),
    )
