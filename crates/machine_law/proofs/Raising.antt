-- RaiseLabel keeps what holds of the labels: the arcs that it makes steep were passed below the best port.
use Rattle.fixed_worth.proofs.Common.{◌≡◌, ◌≢◌, ℕ, ◌+◌, ◌<◌, ◌≤◌, ◌⊎◌, inl, inr, Bool, false, not, nat_lt, ◌&&◌, Some}
use Rattle.fixed_worth.proofs.Common.{[], length, refl, sym, subst, arith, ints, cases_eq, ltb-true, lt-ltb}
use Rattle.ordered_group.specs.Prelude.{Amount, zero_amount, minus, AtMost, Below, positive, amount_at}
use Rattle.ordered_group.proofs.Order.{AtMost-refl}
use Rattle.prec_file.specs.Rests.{from_at, to_at}
use Rattle.closure_net.specs.Prelude.{NetView, forward_port, sink_port, source_port}
use Rattle.machine_law.specs.declared.operations.Best.{Best}
use Rattle.machine_law.specs.declared.operations.Operation.TheVariants.{Idle, RaiseDue}
use Rattle.machine_law.specs.Prelude.{State, room, after_raise, HasAmounts, supply, arcs, steep_capacity, IsWalk}
use Rattle.machine_law.specs.Prelude.{IsLevelled, HasLabels}
use Rattle.machine_law.proofs.Points.{with_value_at-same, with_value_at-other, with_value_at-each}
use Rattle.machine_law.proofs.Arcs.{arcs-most}
use Rattle.machine_law.proofs.Calm.{IsCalm, operation_calm, steep_calm}
use Rattle.machine_law.proofs.Supply.{supply_raised}
use Rattle.machine_law.proofs.Staying.{same_arcs, same_supply}

module _ (net : NetView) (s : State) (b : ℕ) (l : b < length net.worths) (have : Amount) (best : Best Amount)
    (e : s.operation b ≡ RaiseDue have best) (some : Below zero_amount have)
    (walk : IsWalk net s b have [] (Some best)) (up : s.label b ≤ best.label) (k : HasAmounts net s)
    (h : HasLabels net s) where
  rises : (i : ℕ) → s.label i ≤ (after_raise s b best).label i
  rises = with_value_at-each (λ i n. s.label i ≤ n) s.label b (best.label + 1) (omega (arith, up)) (λ i ne. omega arith)

  own : (after_raise s b best).label b ≡ best.label + 1
  own = with_value_at-same s.label b (best.label + 1)

  steep_raised : AtMost (steep_capacity net (after_raise s b best) b) (supply net (after_raise s b best) b)
  steep_raised =
      let t = after_raise s b best in
      let f : ℕ → Bool = λ j. nat_lt (t.label (from_at net.pairs j) + 1) (t.label b) in
      let g : ℕ → Bool = λ j. not false && nat_lt (s.label (from_at net.pairs j)) best.label in
      let a : AtMost (arcs net f s.flow b) (arcs net g s.flow b) = arcs-most net f g s.flow s.flow b (λ j _ _ q.
      let i = ltb-true (t.label (from_at net.pairs j) + 1) (t.label b) q in
      let m = rises (from_at net.pairs j) in
      let o = own in
      lt-ltb (s.label (from_at net.pairs j)) best.label (omega (arith, i, m, o))) (λ j. AtMost-refl (s.flow j))
      k.flow in
      let low_is : AtMost (arcs net g s.flow b) (minus (supply net s b) have) = walk.low_most in
      let v = supply_raised net s b l b have best e in
      record {
        worths = omega (arith, ints, a, low_is, v, some);
        counts = λ i. omega
            (arith, ints, a, low_is, v, some, i);
      }

  calm : (x : ℕ) → x ≢ b → IsCalm net s (after_raise s b best) x
  calm x ne = record {
    own = with_value_at-other s.label b (best.label + 1) x ne;
    labels = rises;
    source = refl;
    sink = refl;
    gain = zero_amount;
    arcs_most = same_arcs net s x k;
    supply_more = same_supply net s (after_raise s b best) x (supply_raised net s b l x have best e);
  }

  pub labels_raised : HasLabels net (after_raise s b best)
  labels_raised =
      let t = after_raise s b best in
      record {
        forward = λ j i. elim (cases_eq (from_at net.pairs j) b) [
          | inl at ↦
              let u = walk.passed (forward_port (to_at net.pairs) j) (i, at, refl) tt refl in
              let m = rises (to_at net.pairs j) in
              let o = own in
              subst (λ (y : ℕ). t.label y ≤ t.label (to_at net.pairs j) + 1) (sym at) (omega (arith, u, m, o))
          | inr ne ↦
              let u = h.forward j i in
              let m = rises (to_at net.pairs j) in
              let a = with_value_at-other s.label b (best.label + 1) (from_at net.pairs j) ne in
              omega (arith, u, m, a)
        ];
        sink = with_value_at-each (λ i n. Below zero_amount (room net s i) → n ≤ 1) s.label b (best.label + 1)
            (λ o. let u = walk.passed (sink_port b) (refl, refl) o refl in omega (arith, u)) (λ i ne. h.sink i);
        source = with_value_at-each (λ i n. Below zero_amount (s.source i) → n ≤ length net.worths + 3) s.label b
            (best.label + 1) (λ o. let u = walk.passed (source_port b) (refl, refl) o refl in omega (arith, u))
            (λ i ne. h.source i);
        left = with_value_at-each (λ i n. (s.source i ≡ positive (amount_at net.worths i))
            ⊎ (length net.worths + 2 < n)) s.label b (best.label + 1)
            (elim (h.left b) [ inl y ↦ inl y | inr y ↦ inr (omega (arith, y, up)) ]) (λ i ne. h.left i);
        steep_most = λ x. elim (cases_eq x b) [
          | inl at ↦ subst (λ (y : ℕ). AtMost (steep_capacity net t y) (supply net t y)) (sym at) steep_raised
          | inr ne ↦ steep_calm net s t x (calm x ne) (h.steep_most x)
        ];
        operation = with_value_at-each (λ i u. IsLevelled net t i u) s.operation b Idle tt
            (λ i ne. operation_calm net s t i (calm i ne) (s.operation i) (h.operation i));
      }
