-- Sums over the backward arcs of a block.
use Rattle.fixed_worth.proofs.Common.{◌≡◌, ℕ, ◌<◌, ◌==◌, Bool, true, ◌&&◌, ◌⊎◌, inl, inr, length, refl, sym, arith}
use Rattle.fixed_worth.proofs.Common.{ints, and_parts, and_from, cases_Bool, eqb-true, eq-eqb, common_steps}
use Rattle.ordered_group.specs.Prelude.{Amount, zero_amount, plus, AtMost, total, where_so}
use Rattle.ordered_group.proofs.Order.{AtMost-refl, AtMost-same, AtMost-trans}
use Rattle.ordered_group.proofs.Totals.{total_mono, total-none, total_term, where_so-plus, where_at, where_not}
use Rattle.ordered_group.proofs.Totals.{where_most, where_most_or, where_nonneg}
use Rattle.prec_file.specs.Rests.{to_at}
use Rattle.closure_net.specs.Network.{NetView}
use Rattle.machine_law.specs.Prelude.{with_value_at, arcs}
use Rattle.machine_law.proofs.Numbers.{Same, same, shifted}
use Rattle.machine_law.proofs.Points.{total-with_value_at}

module _ (net : NetView) where
  -- fewer arcs, of lesser flow
  pub arcs-most : (f g : ℕ → Bool) (u v : ℕ → Amount) (x : ℕ)
      → ((k : ℕ) → k < length net.pairs → to_at net.pairs k ≡ x → f k ≡ true → g k ≡ true)
      → ((k : ℕ) → AtMost (u k) (v k)) → ((k : ℕ) → AtMost zero_amount (v k)) → AtMost (arcs net f u x) (arcs net g v x)
  unfolding arcs
  arcs-most f g u v x i h n =
      total_mono (λ k. where_so ((to_at net.pairs k == x) && f k) (u k))
      (λ k. where_so ((to_at net.pairs k == x) && g k) (v k)) (length net.pairs)
      (λ k l. where_most ((to_at net.pairs k == x) && f k) ((to_at net.pairs k == x) && g k) (u k) (v k)
      (λ e. let p = and_parts (to_at net.pairs k == x) (f k) e in and_from (to_at net.pairs k == x) (g k) p.0
      (i k l (eqb-true (to_at net.pairs k) x p.0) p.1)) (h k) (n k))

  -- fewer arcs, but for some that carry nothing
  pub arcs-most_or : (f g : ℕ → Bool) (u : ℕ → Amount) (x : ℕ)
      → ((k : ℕ) → k < length net.pairs → to_at net.pairs k ≡ x → f k ≡ true → (g k ≡ true)
      ⊎ AtMost (u k) zero_amount) → ((k : ℕ) → AtMost zero_amount (u k)) → AtMost (arcs net f u x) (arcs net g u x)
  unfolding arcs
  arcs-most_or f g u x i n =
      total_mono (λ k. where_so ((to_at net.pairs k == x) && f k) (u k))
      (λ k. where_so ((to_at net.pairs k == x) && g k) (u k)) (length net.pairs)
      (λ k l. where_most_or ((to_at net.pairs k == x) && f k) ((to_at net.pairs k == x) && g k) (u k)
      (λ e. let p = and_parts (to_at net.pairs k == x) (f k) e in elim
      (i k l (eqb-true (to_at net.pairs k) x p.0) p.1)
      [ inl t ↦ inl (and_from (to_at net.pairs k == x) (g k) p.0 t) | inr z ↦ inr z ]) (n k))

  -- no arc passes
  pub arcs-none : (f : ℕ → Bool) (u : ℕ → Amount) (x : ℕ)
      → ((k : ℕ) → k < length net.pairs → to_at net.pairs k ≡ x → f k ≡ true → ⊥) → arcs net f u x ≡ zero_amount
  unfolding arcs
  arcs-none f u x stop = grind (arith, common_steps, total-none, cases_Bool, and_parts, eqb-true, where_not)

  -- the flow of one pair is changed
  pub arcs-with_value_at : (f : ℕ → Bool) (u : ℕ → Amount) (x i : ℕ) (v : Amount) → i < length net.pairs
      → Same (plus (arcs net f (with_value_at u i v) x) (where_so ((to_at net.pairs i == x) && f i) (u i)))
      (plus (arcs net f u x) (where_so ((to_at net.pairs i == x) && f i) v))
  unfolding arcs
  arcs-with_value_at f u x i v l = total-with_value_at (λ k a. where_so ((to_at net.pairs k == x) && f k) a) u i v
      (length net.pairs) l

  -- more flow on one pair adds at most as much, and only where it ends at x
  pub arcs-plus : (f : ℕ → Bool) (u : ℕ → Amount) (x i y : ℕ) (d : Amount) → i < length net.pairs
      → to_at net.pairs i ≡ y → AtMost zero_amount d → AtMost (arcs net f (with_value_at u i (plus (u i) d)) x)
      (plus (arcs net f u x) (where_so (y == x) d))
  arcs-plus f u x i y d l e n =
      let t = arcs-with_value_at f u x i (plus (u i) d) l in
      let g = same (where_so-plus ((to_at net.pairs i == x) && f i) (u i) d) in
      let m = where_most ((to_at net.pairs i == x) && f i) (y == x) d d
      (λ q. rw (← e) ((and_parts (to_at net.pairs i == x) (f i) q).0)) (AtMost-refl d) n in
      shifted m (record { w = omega (arith, ints, t, g); c = omega (arith, ints, t, g) })

  -- each arc that passes is at most the sum
  pub arcs-each : (f : ℕ → Bool) (u : ℕ → Amount) (i : ℕ) → i < length net.pairs → f i ≡ true
      → ((k : ℕ) → AtMost zero_amount (u k)) → AtMost (u i) (arcs net f u (to_at net.pairs i))
  unfolding arcs
  arcs-each f u i l e n =
      let x = to_at net.pairs i in
      let at = where_at ((x == x) && f i) (u i) (and_from (x == x) (f i) (eq-eqb x x refl) e) in
      let t = total_term (λ k. where_so ((to_at net.pairs k == x) && f k) (u k)) i (length net.pairs) l
      (λ k _. where_nonneg ((to_at net.pairs k == x) && f k) (u k) (n k)) in
      AtMost-trans (u i) (where_so ((x == x) && f i) (u i))
      (total (λ k. where_so ((to_at net.pairs k == x) && f k) (u k)) (length net.pairs))
      (AtMost-same _ _ (sym at)) t
