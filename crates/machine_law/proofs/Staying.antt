-- Steps that change no label, no flow and no supply keep what holds of the labels: reads, TakeExcess and GiveExcess.
use Rattle.fixed_worth.proofs.Common.{◌≡◌, ℕ, ◌<◌, Bool, true, length, refl, ap, sym, subst, arith, ints}
use Rattle.ordered_group.specs.Prelude.{Amount, zero_amount, plus, minus, AtMost, Below, negative, amount_at}
use Rattle.ordered_group.proofs.Order.{AtMost-refl}
use Rattle.closure_net.specs.Network.{NetView}
use Rattle.closure_net.specs.declared.port.Port.{Port}
use Rattle.closure_net.specs.declared.port.PortKind.{PortKind}
use Rattle.closure_net.specs.declared.port.PortKind.TheVariants.{Sink, Forward, Backward, Source}
use Rattle.machine_law.specs.declared.operations.Operation.{Operation}
use Rattle.machine_law.specs.declared.operations.Operation.TheVariants.{Idle, TakeDue, GiveDue}
use Rattle.machine_law.specs.Prelude.{State, with_value_at, with_operation, after_take, after_give, after_give_by}
use Rattle.machine_law.specs.Prelude.{HasAmounts, supply, arcs, IsLevelled, HasLabels}
use Rattle.machine_law.proofs.Numbers.{Same, shifted}
use Rattle.machine_law.proofs.Points.{with_value_at-each}
use Rattle.machine_law.proofs.Arcs.{arcs-most}
use Rattle.machine_law.proofs.Calm.{IsCalm, operation_calm, steep_calm}
use Rattle.machine_law.proofs.Supply.{IsAtRest, supply_rest, supply_taken, supply_given}

-- fewer arcs of the same flow
pub same_arcs : (net : NetView) (s : State) (x : ℕ) → HasAmounts net s → (f g : ℕ → Bool)
    → ((k : ℕ) → f k ≡ true → g k ≡ true) → AtMost (arcs net f s.flow x) (plus (arcs net g s.flow x) zero_amount)
same_arcs net s x k f g h = shifted
    (arcs-most net f g s.flow s.flow x (λ j _ _ e. h j e) (λ j. AtMost-refl (s.flow j)) k.flow)
    (record { w = omega (arith, ints); c = omega (arith, ints) })

-- the supply is the same
pub same_supply : (net : NetView) (s t : State) (x : ℕ) → Same (supply net t x) (supply net s x)
    → AtMost (plus (supply net s x) zero_amount) (supply net t x)
same_supply net s t x e = shifted (AtMost-refl zero_amount)
    (record { w = omega (arith, ints, e); c = omega (arith, ints, e) })

module _ (net : NetView) (s : State) (b : ℕ) (k : HasAmounts net s) (h : HasLabels net s) where
  -- a state that differs in excesses and in the operation of b alone, with the same supplies
  labels_stay : (t : State) (o : Operation Amount) → t.label ≡ s.label → t.source ≡ s.source → t.sink ≡ s.sink
      → t.flow ≡ s.flow → t.operation ≡ with_value_at s.operation b o
      → ((x : ℕ) → Same (supply net t x) (supply net s x)) → IsLevelled net s b o → HasLabels net t
  labels_stay t o el es ek ef eo same is =
      let calm : (x : ℕ) → IsCalm net s t x = λ x. record {
        own = ap (λ (u : ℕ → ℕ). u x) el;
        labels = λ i. rw el (omega arith);
        source = ap (λ (u : ℕ → Amount). u x) es;
        sink = ap (λ (u : ℕ → Amount). u x) ek;
        gain = zero_amount;
        arcs_most = λ f g i. subst
            (λ (u : ℕ → Amount). AtMost (arcs net f u x) (plus (arcs net g s.flow x) zero_amount)) (sym ef)
            (same_arcs net s x k f g i);
        supply_more = same_supply net s t x (same x);
      } in
      record {
        forward = λ j l. rw el (h.forward j l);
        sink = λ x o. rw el (h.sink x
            (subst (λ (u : ℕ → Amount). Below zero_amount (minus (negative (amount_at net.worths x)) (u x))) ek o));
        source = λ x o. rw el (h.source x (subst (λ (u : ℕ → Amount). Below zero_amount (u x)) es o));
        left = λ x. rw (es, el) (h.left x);
        steep_most = λ x. steep_calm net s t x (calm x) (h.steep_most x);
        operation = subst (λ (u : ℕ → Operation Amount). (x : ℕ) → IsLevelled net t x (u x)) (sym eo)
            (with_value_at-each (λ i u. IsLevelled net t i u) s.operation b o (operation_calm net s t b (calm b) o is)
            (λ i ne. operation_calm net s t i (calm i) (s.operation i) (h.operation i)));
      }

  pub labels_rest : b < length net.worths → (old new : Operation Amount) → s.operation b ≡ old → IsAtRest old
      → IsAtRest new → IsLevelled net s b new → HasLabels net (with_operation s b new)
  labels_rest l old new e r n is = labels_stay (with_operation s b new) new refl refl refl refl refl
      (λ x. supply_rest net s b l x old new e r n) is

  pub labels_taken : b < length net.worths → (d : Amount) (p : Port) → s.operation b ≡ TakeDue d p
      → HasLabels net (after_take s b d p)
  labels_taken l d p e = labels_stay (after_take s b d p) (GiveDue d p) refl refl refl refl refl
      (λ x. supply_taken net s b l x d p e) tt

  labels_given_by : (d : Amount) (p : Port) (kind : PortKind)
      → ((x : ℕ) → Same (supply net (after_give_by s b d p kind) x) (supply net s x))
      → HasLabels net (after_give_by s b d p kind)
  labels_given_by d p Sink same = labels_stay (after_give_by s b d p Sink) Idle refl refl refl refl refl same tt
  labels_given_by d p Forward same = labels_stay (after_give_by s b d p Forward) Idle refl refl refl refl refl same tt
  labels_given_by d p Backward same = labels_stay (after_give_by s b d p Backward) Idle refl refl refl refl refl same tt
  labels_given_by d p Source same = labels_stay (after_give_by s b d p Source) Idle refl refl refl refl refl same tt

  pub labels_given : b < length net.worths → (d : Amount) (p : Port) → s.operation b ≡ GiveDue d p
      → HasLabels net (after_give s b d p)
  labels_given l d p e = labels_given_by d p p.kind (λ x. supply_given net s b l x d p e)
