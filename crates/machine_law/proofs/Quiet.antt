-- The flow of a quiet state is a greatest one, and what the source reaches in what it leaves is a greatest closed set.
use Rattle.fixed_worth.proofs.Common.{◌≡◌, ◌≢◌, ℕ, ◌+◌, ◌<◌, ◌≤◌, ◌==◌, ◌⊎◌, inl, inr, Bool, true, false, nat_lt}
use Rattle.fixed_worth.proofs.Common.{length, ap, sym, ◌∙◌, subst, arith, ints, cases_lt, ltb-true, lt-ltb}
use Rattle.fixed_worth.proofs.Common.{get_or_default, common_steps}
use Rattle.ordered_group.specs.Prelude.{Amount, zero_amount, plus, minus, AtMost, Below, positive, negative, where_so}
use Rattle.ordered_group.specs.Prelude.{at_end, amount_at}
use Rattle.ordered_group.proofs.Order.{AtMost-both, AtMost-same, most_or_below}
use Rattle.ordered_group.proofs.Signs.{sign_or}
use Rattle.ordered_group.proofs.Totals.{total-same, total-none}
use Rattle.prec_file.specs.Rests.{from_at, to_at}
use Rattle.closure_net.specs.Prelude.{NetView, FlowView, Stays, IsClosed, IsFlow, IsTight, IsReached, Reaches}
use Rattle.closure_net.proofs.Duality.{PairsKnown, closed_bound, greatest_flow_from_tight}
use Rattle.machine_law.specs.Prelude.{State, IsQuiet, room, amount_owed, on_way, sum_on_way, amount_landing}
use Rattle.machine_law.specs.Prelude.{amount_coming, inflow_at, outflow_at, steep_capacity, IsLawful, IsFlowOf}
use Rattle.machine_law.specs.Prelude.{IsSolved, QuietSolves}
use Rattle.machine_law.proofs.Numbers.{same, equal, shifted}
use Rattle.machine_law.proofs.Arcs.{arcs-each}
use Rattle.machine_law.proofs.Law.{runs_keep_law}
use Rattle.machine_law.proofs.Levels.{empty_above}
use Rattle.machine_law.proofs.Tight.{tight_sum}

-- a set that the source's reach doesn't leave is closed
closed_from : (net : NetView) (flow : FlowView) (e : ℕ → Bool) → Reaches net flow e → IsClosed net.pairs e
closed_from net flow e r k d l = subst (Stays e) (get_or_default net.pairs k (0, 0) d l) (r.down k l)

below_not : (x y : Amount) → Below x y → ¬ (AtMost y x)
below_not x y h k = absurd (omega (arith, ints, h, k))

-- an amount is at most another, or isn't
most_or : (x y : Amount) → AtMost x y ⊎ ¬ (AtMost x y)
most_or x y = elim (most_or_below x y) [ inl m ↦ inl m | inr h ↦ inr (below_not y x h) ]

not_both : (t : Bool) {P : Type 0} → t ≡ true → t ≡ false → P
not_both t h e = grind (arith, common_steps)

-- and tight, where its blocks give the sink all they may
tight_from : (net : NetView) (flow : FlowView) (e : ℕ → Bool) → PairsKnown net → IsFlow net flow → Reaches net flow e
    → ((b : ℕ) → b < length net.worths → e b ≡ true
    → AtMost (negative (amount_at net.worths b)) (amount_at flow.sink b)) → IsTight net flow e
tight_from net flow e known is r full =
    tight_sum (length net.worths) (length net.pairs) (from_at net.pairs) (to_at net.pairs) (amount_at net.worths)
    (amount_at flow.source) (amount_at flow.sink) (amount_at flow.rest) e
    (λ k l. (known k (0, 0) l).0)
    (λ k l. (known k (0, 0) l).1)
    is.balance
    (λ k l. r.down k l)
    (λ k l at out.
    let f = is.fits.rest in
    AtMost-both (amount_at flow.rest k) zero_amount (elim (sign_or (amount_at flow.rest k)) [
      | inl m ↦ m
      | inr o ↦ not_both (e (from_at net.pairs k)) (r.up k l (below_not zero_amount (amount_at flow.rest k) o) at) out
    ]) (is.rest k (omega (arith, l, f))))
    (λ b l i. AtMost-both (amount_at flow.sink b) (negative (amount_at net.worths b)) (is.capacity b l).1 (full b l i))
    (λ b l i. AtMost-both (amount_at flow.source b) (positive (amount_at net.worths b)) (is.capacity b l).0
    (elim (most_or (positive (amount_at net.worths b)) (amount_at flow.source b)) [
      | inl m ↦ m
      | inr o ↦ not_both (e b) (r.begins b l o) i
    ]))

-- ---- the flow of a quiet state
module _ (net : NetView) (s : State) (flow : FlowView) (known : PairsKnown net) (h : IsLawful net s)
    (q : IsQuiet net s) (is : IsFlowOf net s flow) where
  nothing_coming : (b : ℕ) → amount_coming net s b ≡ zero_amount
  unfolding sum_on_way
  nothing_coming b = total-none (λ c. on_way (amount_landing b) (s.operation c)) (length net.worths)
      (λ c l. ap (on_way (amount_landing b)) (q.operation c l))

  -- what comes in and goes out is the same by either view
  end_same : (end : ℕ → ℕ) (b : ℕ) → at_end end (amount_at flow.rest) (length net.pairs) b ≡ at_end end s.flow
      (length net.pairs) b
  end_same end b = total-same _ _ (length net.pairs) (λ k l. ap (where_so (end k == b)) (is.rest k l))

  inflow_is : (b : ℕ) → at_end (to_at net.pairs) (amount_at flow.rest) (length net.pairs) b ≡ inflow_at net s.flow b
  unfolding inflow_at
  inflow_is b = end_same (to_at net.pairs) b

  outflow_is : (b : ℕ) → at_end (from_at net.pairs) (amount_at flow.rest) (length net.pairs) b ≡ outflow_at net s.flow b
  unfolding outflow_at
  outflow_is b = end_same (from_at net.pairs) b

  -- what the state owes, has, and is to get is zero
  supply_zero : (b : ℕ) → b < length net.worths
      → minus (plus (s.excess b) (amount_coming net s b)) (amount_owed (s.operation b)) ≡ zero_amount
  supply_zero b l = grind (arith, common_steps, same, nothing_coming, equal)

  pub quiet_flow : IsFlow net flow
  quiet_flow = record {
    fits = is.fits;
    source = λ k l. let f = is.fits.source in rw (is.source k (omega (arith, l, f))) (h.amounts.source k);
    rest = λ k l. let f = is.fits.rest in rw (is.rest k (omega (arith, l, f))) (h.amounts.flow k);
    sink = λ k l. let f = is.fits.sink in rw (is.sink k (omega (arith, l, f))) (h.amounts.sink k);
    capacity = λ b l. (rw (is.source b l) (h.amounts.source_most b), rw (is.sink b l) (h.amounts.sink_most b));
    balance = λ b l.
        let s' = same (is.source b l) in
        let t = same (is.sink b l) in
        let i = same (inflow_is b) in
        let o = same (outflow_is b) in
        let z = same (supply_zero b l) in
        let bal = same (h.balances.blocks b) in
        equal (record { w = omega (arith, ints, s', t, i, o, z, bal); c = omega (arith, ints, s', t, i, o, z, bal) });
  }

  -- a pair that falls by more than one label carries nothing back
  quiet_arc : (k : ℕ) → k < length net.pairs → s.label (from_at net.pairs k) + 1 < s.label (to_at net.pairs k)
      → AtMost (s.flow k) zero_amount
  quiet_arc k l far =
      let b = to_at net.pairs k in
      let m = h.labels.steep_most b in
      let z = same (supply_zero b (known k (0, 0) l).1) in
      let a : AtMost (s.flow k) (steep_capacity net s b) = arcs-each net
      (λ i. nat_lt (s.label (from_at net.pairs i) + 1) (s.label b)) s.flow k l
      (lt-ltb (s.label (from_at net.pairs k) + 1) (s.label b) far) h.amounts.flow in
      record { worths = omega (arith, ints, m, z, a); counts = λ i. omega (arith, ints, m, z, a, i) }

  -- ---- the blocks above an empty level
  module _ (level : ℕ) (low : 1 ≤ level) (most : level ≤ length net.worths + 1)
      (empty : (b : ℕ) → b < length net.worths → s.label b ≢ level) where
    abbrev above : ℕ → Bool
    above b = nat_lt level (s.label b)

    above_reaches : Reaches net flow above
    above_reaches = record {
      begins = λ b l o. elim (h.labels.left b) [
        | inl e ↦ absurd (o (AtMost-same _ _ (sym (is.source b l ∙ e))))
        | inr up ↦ lt-ltb level (s.label b) (omega (arith, up, most))
      ];
      down = λ k l y.
          let a = ltb-true level (s.label (from_at net.pairs k)) y in
          let f = h.labels.forward k l in
          let ne = empty (to_at net.pairs k) (known k (0, 0) l).1 in
          lt-ltb level (s.label (to_at net.pairs k)) (omega (arith, a, f, ne));
      up = λ k l c y.
          let a = ltb-true level (s.label (to_at net.pairs k)) y in
          let ne = empty (from_at net.pairs k) (known k (0, 0) l).0 in
          elim (cases_lt (s.label (from_at net.pairs k) + 1) (s.label (to_at net.pairs k))) [
            | inl far ↦ absurd (c (rw (is.rest k l) (quiet_arc k l far)))
            | inr near ↦ lt-ltb level (s.label (from_at net.pairs k)) (omega (arith, a, ne, near))
          ];
    }

    above_full : (b : ℕ) → b < length net.worths → above b ≡ true
        → AtMost (negative (amount_at net.worths b)) (amount_at flow.sink b)
    above_full b l y = elim (sign_or (room net s b)) [
      | inl m ↦ let t = same (is.sink b l) in shifted m
          (record { w = omega (arith, ints, t); c = omega (arith, ints, t) })
      | inr o ↦ let a = ltb-true level (s.label b) y in let n = h.labels.sink b o in absurd (omega (arith, a, n, low))
    ]

    solved_by : IsSolved net flow
    solved_by =
        let f = quiet_flow in
        let tight : (e : ℕ → Bool) → IsReached net flow e
        → IsTight net flow e = λ e r. tight_from net flow e known f r.0
        (λ b l y. above_full b l (r.1 above above_reaches b y)) in
        record {
          greatest = greatest_flow_from_tight net flow above known f (closed_from net flow above above_reaches)
              (tight_from net flow above known f above_reaches above_full);
          closed = λ e r. closed_from net flow e r.0;
          tight = tight;
          greatest_set = λ e r. record
              { closed = closed_from net flow e r.0; most = λ c i. rw (tight e r) (closed_bound net flow c known f i) };
        }

  pub quiet_solved : IsSolved net flow
  quiet_solved = let l = empty_above (length net.worths) s.label in solved_by l.0 l.1 l.2 l.3

pub quiet_solves : QuietSolves
quiet_solves net es t flow known r q is = quiet_solved net t flow known (runs_keep_law net es t r) q is
