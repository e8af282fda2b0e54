-- A push keeps a series.
use Rattle.fixed_worth.proofs.Common.{◌≡◌, ℕ, ◌<◌, ◌≤◌, Bool, true, false, IsTrue, List, [], ◌∷◌, ◌++◌, length}
use Rattle.fixed_worth.proofs.Common.{length-append, Option, Some, None, inl, inr, sym, subst, refl, ap, ◌∙◌, arith}
use Rattle.fixed_worth.proofs.Common.{Contains, le-leb, lt-leb, cases_lt, eqb-true, and_parts, get_or_past}
use Rattle.fixed_worth.proofs.Common.{Contains-append_left, Contains-append_right, Contains-append_cases}
use Rattle.fixed_worth.proofs.Common.{Any-from_list_any, same_Some, common_steps}
use Rattle.prec_file.specs.Prelude.{IsRests, has_pair}
use Rattle.closure_net.specs.Mine.{IsBest, RestsWithin}
use Rattle.closure_net.proofs.BestPits.{best_of_same}
use Rattle.shells.specs.Prelude.{PricesView, priced_count, mine_at, SeriesView, shell_at, is_upto, upto, IsSeries}
use Rattle.shells.specs.Prelude.{IsAboveAll, with_shell, IsPushed}
use Rattle.shells.proofs.Rising.{best_is_nested}
use Rattle.shells.proofs.Factors.{one_last, rising_more}

-- ---- the best pit is one set of blocks

-- ---- one push

-- what the shells up to k are after a push at k
at_new : (o : Option ℕ) (t : Bool) (k : ℕ) → ((x : ℕ) → o ≡ Some x → (x ≤ k) × (t ≡ true))
    → is_upto (with_shell o t k) k ≡ t
at_new (Some x) t k h = let i = h x refl in le-leb x k i.0 ∙ sym i.1
at_new None true k h = le-leb k k (omega arith)
at_new None false k h = refl

-- and up to an earlier factor
at_old : (o : Option ℕ) (t : Bool) (j k : ℕ) → j < k → is_upto (with_shell o t k) j ≡ is_upto o j
at_old None true j k l = lt-leb k j l
at_old o t j k l = refl

module _ (s t : SeriesView) (k : ℕ) (e : ℕ → Bool) (h : IsSeries s) (above : IsAboveAll s.factors k)
    (best : IsBest (mine_at s.pairs s.prices k) e)
    (own : RestsWithin (mine_at s.pairs s.prices k)) (pushed : IsPushed s t k e) where
  -- a block with a shell is in the best pit at the higher factor
  pub has_shell : (b x : ℕ) → b < priced_count s.prices → shell_at s.shells b ≡ Some x → (x ≤ k) × (e b ≡ true)
  has_shell b x l is =
      let known = h.known b x is in
      let lower : x < k = above x known in
      let le : x ≤ k = omega (arith, lower) in
      let held : IsTrue (upto s.shells x b) = ap (λ o. is_upto o x) is ∙ le-leb x x (omega arith) in (
        le,
        best_is_nested (has_pair s.pairs) s.prices x k (upto s.shells x) e h.prices.revenues le
            (h.best x known) best b l held,
      )

  inside : (b : ℕ) → b < priced_count s.prices → b < length s.shells
  inside b l = rw h.shells l

  pub new_is_best : IsBest (mine_at s.pairs s.prices k) (upto t.shells k)
  new_is_best = best_of_same (mine_at s.pairs s.prices k) e (upto t.shells k) own best
      (λ b l. ap (λ o. is_upto o k) (pushed.shells b (inside b l))
      ∙ at_new (shell_at s.shells b) (e b) k (λ x is. has_shell b x l is))

  pub old_is_best : (j : ℕ) → Contains s.factors j → RestsWithin (mine_at s.pairs s.prices j)
      → IsBest (mine_at s.pairs s.prices j) (upto t.shells j)
  old_is_best j c o = best_of_same (mine_at s.pairs s.prices j) (upto s.shells j) (upto t.shells j) o (h.best j c)
      (λ b l. ap (λ o. is_upto o j) (pushed.shells b (inside b l)) ∙ at_old (shell_at s.shells b) (e b) j k (above j c))

-- ---- the parts of what a series is

pub mine_is_own : (pairs : List (ℕ × ℕ)) (table : PricesView) (k : ℕ)
    → IsRests (record { blocks = priced_count table; pairs = pairs }) → RestsWithin (mine_at pairs table k)
mine_is_own pairs table k r = grind (arith, common_steps, Any-from_list_any, and_parts, eqb-true)

shell_known : (o : Option ℕ) (t : Bool) (k x : ℕ) (factors : List ℕ) → ((y : ℕ) → o ≡ Some y → Contains factors y)
    → with_shell o t k ≡ Some x → Contains (factors ++ k ∷ []) x
shell_known (Some y) t k x factors h e = Contains-append_left factors (k ∷ []) x
    (subst (Contains factors) (same_Some _ _ e) (h y refl))
shell_known None true k x factors h e = Contains-append_right factors (k ∷ []) x
    (subst (Contains (k ∷ [])) (same_Some _ _ e) (0, omega arith, refl))
shell_known None false k x factors h e = absurd cc

pub push_keeps : (s t : SeriesView) (k : ℕ) (e : ℕ → Bool) → IsSeries s → IsAboveAll s.factors k
    → length s.factors < 64 → IsBest (mine_at s.pairs s.prices k) e → IsPushed s t k e → IsSeries t
push_keeps s t k e h above room best p =
    let own = λ (j : ℕ). mine_is_own s.pairs s.prices j h.rests in
    record {
      rests = rw (p.pairs, p.prices) h.rests;
      prices = rw p.prices h.prices;
      shells = rw (p.size, p.prices) h.shells;
      few = rw p.factors (omega (arith, length-append s.factors (k ∷ []), room));
      rising = rw p.factors (rising_more s.factors k h.rising above);
      known = λ b x is. rw p.factors (elim (cases_lt b (length s.shells)) [
        | inl l ↦ shell_known (shell_at s.shells b) (e b) k x s.factors (h.known b) (sym (p.shells b l) ∙ is)
        | inr past ↦
            let none : shell_at t.shells b ≡ None = get_or_past t.shells b None (rw p.size past) in
            absurd (let bad : None ≡ Some x = sym none ∙ is in cc)
      ]);
      best = λ j c.
          let held : Contains (s.factors ++ k ∷ []) j = subst (λ xs. Contains xs j) p.factors c in
          rw (p.pairs, p.prices) (elim (Contains-append_cases s.factors (k ∷ []) j held) [
            | inl old ↦ old_is_best s t k e h above best (own k) p j old (own j)
            | inr new ↦ subst (λ m. IsBest (mine_at s.pairs s.prices m) (upto t.shells m)) (sym (one_last k j new))
                (new_is_best s t k e h above best (own k) p)
          ]);
    }
