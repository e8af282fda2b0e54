-- Each step keeps what holds of the amounts.
use Rattle.fixed_worth.proofs.Common.{◌≡◌, ℕ, ◌<◌, Option, Some, None, length, refl, ap, sym, ◌∙◌, subst, arith}
use Rattle.fixed_worth.proofs.Common.{slice_get, ints, cond_both, slice_get_within, common_steps}
use Rattle.ordered_group.specs.Prelude.{Amount, zero_amount, plus, minus, AtMost, Below, positive, negative, amount_at}
use Rattle.ordered_group.proofs.Order.{AtMost-refl, AtMost-trans, Below-most, lesser_amount-right}
use Rattle.ordered_group.proofs.Signs.{NonNeg-plus, AtMost-plus}
use Rattle.prec_file.specs.Rests.{to_at}
use Rattle.closure_net.specs.Prelude.{NetView, ports}
use Rattle.closure_net.specs.declared.port.Port.{Port}
use Rattle.closure_net.specs.declared.port.PortKind.{PortKind}
use Rattle.closure_net.specs.declared.port.PortKind.TheVariants.{Sink, Forward, Backward, Source}
use Rattle.machine_law.specs.declared.operations.Best.{Best}
use Rattle.machine_law.specs.declared.operations.Operation.{Operation}
use Rattle.machine_law.specs.declared.operations.Operation.TheVariants.{Idle, Scan, PushDue, TakeDue, GiveDue, RaiseDue}
use Rattle.machine_law.specs.Prelude.{State, with_value_at, opening, capacity, capacity_by, end_label, IsEnd, IsPortOf}
use Rattle.machine_law.specs.Prelude.{is_positive, operation_begun_with, after_port, after_capacity, after_label}
use Rattle.machine_law.specs.Prelude.{with_operation, after_look, after_look_by, push_amount, after_push_by, after_take}
use Rattle.machine_law.specs.Prelude.{after_give_by, after_raise, advance, advance_by, amount_owed, HasAmounts}
use Rattle.machine_law.specs.Prelude.{IsWithin, IsWithinBy, IsBestIfAny, IsReadCapacity, IsHeld, IsOperation}
use Rattle.machine_law.specs.Prelude.{IsBalanced}
use Rattle.machine_law.proofs.Numbers.{shifted, joined, positive-yes}
use Rattle.machine_law.proofs.Points.{with_value_at-other, with_value_at-each}
use Rattle.machine_law.proofs.PortLists.{port_with, port-at}
use Rattle.machine_law.proofs.Coming.{has_port}

-- ---- what a step of another block leaves to x: all that its operation may rely on
pub record IsMore (net : NetView) (s t : State) (x : ℕ) : Type 0 where
  pub excess : AtMost (s.excess x) (t.excess x)
  pub sink : t.sink x ≡ s.sink x
  pub source : t.source x ≡ s.source x
  pub flow : (k : ℕ) → to_at net.pairs k ≡ x → AtMost (s.flow k) (t.flow k)

module _ (net : NetView) (s t : State) (x : ℕ) (m : IsMore net s t x) where
  held_more : (d : Amount) → IsHeld s x d → IsHeld t x d
  held_more d h = record { some = h.some; held = AtMost-trans d (s.excess x) (t.excess x) h.held m.excess }

  within_more : (p : Port) (a : Amount) → IsPortOf net x p → IsWithin net s x p a → IsWithin net t x p a
  within_more p a q h = grind (arith, common_steps)

  read_more : (read : Option Amount) (p : Option Port) → ((q : Port) → p ≡ Some q → IsPortOf net x q)
      → IsReadCapacity net s x read p → IsReadCapacity net t x read p
  read_more read p is h = grind (arith, common_steps, within_more)

  pub operation_more : (o : Operation Amount) → IsOperation net s x o → IsOperation net t x o
  operation_more o h = grind (arith, common_steps, held_more, read_more, port-at, within_more)

-- ---- the amount of a push
pub push_most : (have : Amount) (kind : PortKind) (read : Amount) → AtMost (push_amount have kind read) have
push_most have kind read = grind (arith, common_steps)

pub push_some : (net : NetView) (s : State) (b : ℕ) (have : Amount) (kind : PortKind) (slot : ℕ) (read : Amount)
    → Below zero_amount have → IsWithinBy net s b kind slot read → Below zero_amount (push_amount have kind read)
push_some net s b have kind slot read h w = grind (arith, common_steps)

held_push : (net : NetView) (s : State) (b : ℕ) (have : Amount) (kind : PortKind) (slot : ℕ) (read : Amount)
    → IsHeld s b have → IsWithinBy net s b kind slot read → IsHeld s b (push_amount have kind read)
held_push net s b have kind slot read h w = record {
  some = push_some net s b have kind slot read h.some w;
  held = AtMost-trans (push_amount have kind read) have
      (s.excess b) (push_most have kind read) h.held;
}

module _ (net : NetView) (s : State) (b : ℕ) (k : HasAmounts net s) where
  -- ---- the capacity step
  amounts_pushed_by : (have : Amount) (kind : PortKind) (other slot : ℕ) (read : Amount) → IsHeld s b have
      → IsEnd net b kind other slot → IsWithinBy net s b kind slot read
      → HasAmounts net (after_push_by s b (push_amount have kind read) (port_with kind other slot) kind)
  amounts_pushed_by have Sink other slot read h q w =
      let d = push_amount have Sink read in
      let hd = held_push net s b have Sink slot read h w in
      let p = port_with Sink other slot in
      let t = after_push_by s b d p Sink in
      let new = NonNeg-plus (s.sink b) d (k.sink b) (Below-most zero_amount d hd.some) in
      let most : AtMost (plus (s.sink b) d) (negative (amount_at net.worths b)) = joined
      (lesser_amount-right have read) w.1 (record { w = omega (arith, ints); c = omega (arith, ints) }) in
      record {
        excess = k.excess;
        source = k.source;
        source_most = k.source_most;
        sink = with_value_at-each (λ _ a. AtMost zero_amount a) s.sink b (plus (s.sink b) d) new (λ i ne. k.sink i);
        sink_most = with_value_at-each (λ i a. AtMost a (negative (amount_at net.worths i))) s.sink b
            (plus (s.sink b) d) most (λ i ne. k.sink_most i);
        flow = k.flow;
        at_source = k.at_source;
        at_sink = k.at_sink;
        operation = with_value_at-each (λ i o. IsOperation net t i o) s.operation b (TakeDue d p)
            (record { some = hd.some; held = hd.held }, q)
            (λ i ne. operation_more net s t i
            (record {
              excess = AtMost-refl (s.excess i);
              sink = with_value_at-other s.sink b (plus (s.sink b) d) i ne;
              source = refl;
              flow = λ j e. AtMost-refl (s.flow j);
            }) (s.operation i) (k.operation i));
      }
  amounts_pushed_by have Forward other slot read h q w =
      let d = push_amount have Forward read in
      let hd = held_push net s b have Forward slot read h w in
      let p = port_with Forward other slot in
      let t = after_push_by s b d p Forward in
      let dn = Below-most zero_amount d hd.some in
      let new = NonNeg-plus (s.flow slot) d (k.flow slot) dn in
      record {
        excess = k.excess;
        source = k.source;
        source_most = k.source_most;
        sink = k.sink;
        sink_most = k.sink_most;
        flow = with_value_at-each (λ _ a. AtMost zero_amount a) s.flow slot (plus (s.flow slot) d) new
            (λ i ne. k.flow i);
        at_source = k.at_source;
        at_sink = k.at_sink;
        operation = with_value_at-each (λ i o. IsOperation net t i o) s.operation b (TakeDue d p)
            (record { some = hd.some; held = hd.held }, q)
            (λ i ne. operation_more net s t i
            (record {
              excess = AtMost-refl (s.excess i);
              sink = refl;
              source = refl;
              flow = λ j e. with_value_at-each
                  (λ n a. AtMost (s.flow n) a) s.flow slot (plus (s.flow slot) d) (AtMost-plus (s.flow slot) d dn)
                  (λ n _. AtMost-refl (s.flow n)) j;
            }) (s.operation i) (k.operation i));
      }
  amounts_pushed_by have Backward other slot read h q w =
      let d = push_amount have Backward read in
      let hd = held_push net s b have Backward slot read h w in
      let p = port_with Backward other slot in
      let t = after_push_by s b d p Backward in
      let new : AtMost zero_amount (minus (s.flow slot) d) = joined (lesser_amount-right have read) w.1
      (record { w = omega (arith, ints); c = omega (arith, ints) }) in
      record {
        excess = k.excess;
        source = k.source;
        source_most = k.source_most;
        sink = k.sink;
        sink_most = k.sink_most;
        flow = with_value_at-each (λ _ a. AtMost zero_amount a) s.flow slot (minus (s.flow slot) d) new
            (λ i ne. k.flow i);
        at_source = k.at_source;
        at_sink = k.at_sink;
        operation = with_value_at-each (λ i o. IsOperation net t i o) s.operation b (TakeDue d p)
            (record { some = hd.some; held = hd.held }, q)
            (λ i ne. operation_more net s t i
            (record {
              excess = AtMost-refl (s.excess i);
              sink = refl;
              source = refl;
              flow = λ j e. with_value_at-each
                  (λ n a. to_at net.pairs n ≡ i → AtMost (s.flow n) a) s.flow slot (minus (s.flow slot) d)
                  (λ at. absurd (ne (sym at ∙ q.1))) (λ n _ _. AtMost-refl (s.flow n)) j e;
            }) (s.operation i)
            (k.operation i));
      }
  amounts_pushed_by have Source other slot read h q w =
      let d = push_amount have Source read in
      let hd = held_push net s b have Source slot read h w in
      let p = port_with Source other slot in
      let t = after_push_by s b d p Source in
      let new : AtMost zero_amount (minus (s.source b) d) = joined (lesser_amount-right have read) w.1
      (record { w = omega (arith, ints); c = omega (arith, ints) }) in
      let less : AtMost (minus (s.source b) d) (positive (amount_at net.worths b)) = joined (k.source_most b)
      (Below-most zero_amount d hd.some) (record { w = omega (arith, ints); c = omega (arith, ints) }) in
      record {
        excess = k.excess;
        source = with_value_at-each (λ _ a. AtMost zero_amount a) s.source b (minus (s.source b) d) new
            (λ i ne. k.source i);
        source_most = with_value_at-each (λ i a. AtMost a (positive (amount_at net.worths i))) s.source b
            (minus (s.source b) d) less (λ i ne. k.source_most i);
        sink = k.sink;
        sink_most = k.sink_most;
        flow = k.flow;
        at_source = k.at_source;
        at_sink = k.at_sink;
        operation = with_value_at-each (λ i o. IsOperation net t i o) s.operation b (TakeDue d p)
            (record { some = hd.some; held = hd.held }, q)
            (λ i ne. operation_more net s t i
            (record {
              excess = AtMost-refl (s.excess i);
              sink = refl;
              source = with_value_at-other s.source b
                  (minus (s.source b) d) i ne;
              flow = λ j e. AtMost-refl (s.flow j);
            }) (s.operation i) (k.operation i));
      }

  -- ---- the excess steps
  amounts_taken : (d : Amount) (p : Port) → IsHeld s b d → IsPortOf net b p → HasAmounts net (after_take s b d p)
  amounts_taken d p h q =
      let t = after_take s b d p in
      record {
        excess = with_value_at-each (λ _ a. AtMost zero_amount a) s.excess b (minus (s.excess b) d)
            (shifted h.held (record { w = omega (arith, ints); c = omega (arith, ints) })) (λ i ne. k.excess i);
        source = k.source;
        source_most = k.source_most;
        sink = k.sink;
        sink_most = k.sink_most;
        flow = k.flow;
        at_source = k.at_source;
        at_sink = k.at_sink;
        operation = with_value_at-each (λ i o. IsOperation net t i o) s.operation b (GiveDue d p) (h.some, q)
            (λ i ne. operation_more net s t i
            (record {
              excess = subst (AtMost (s.excess i))
                  (sym (with_value_at-other s.excess b (minus (s.excess b) d) i ne)) (AtMost-refl (s.excess i));
              sink =
                  refl;
              source = refl;
              flow = λ j e. AtMost-refl (s.flow j);
            }) (s.operation i) (k.operation i));
      }

  -- a state that leaves every block what it may rely on, with no amount below zero
  amounts_left : (t : State) (o : Operation Amount) → ((x : ℕ) → IsMore net s t x) → t.source ≡ s.source
      → t.sink ≡ s.sink → t.flow ≡ s.flow → t.operation ≡ with_value_at s.operation b o
      → AtMost zero_amount t.at_source → AtMost zero_amount t.at_sink → IsOperation net s b o → HasAmounts net t
  amounts_left t o m es ek ef eo at_source at_sink is = record {
    excess = λ x. AtMost-trans zero_amount (s.excess x) (t.excess x) (k.excess x) (m x).excess;
    source = rw es k.source;
    source_most = rw es k.source_most;
    sink = rw ek k.sink;
    sink_most = rw ek k.sink_most;
    flow = rw ef k.flow;
    at_source = at_source;
    at_sink = at_sink;
    operation = subst (λ (u : ℕ → Operation Amount). (x : ℕ) → IsOperation net t x (u x)) (sym eo)
        (with_value_at-each (λ i u. IsOperation net t i u) s.operation b o (operation_more net s t b (m b) o is)
        (λ i ne. operation_more net s t i (m i) (s.operation i) (k.operation i)));
  }

  nothing_less : (x : ℕ) → IsMore net s s x
  nothing_less x = record {
    excess = AtMost-refl (s.excess x);
    sink = refl;
    source = refl;
    flow = λ j _. AtMost-refl
        (s.flow j);
  }

  more_excess : (other x : ℕ) (d : Amount) → AtMost zero_amount d
      → AtMost (s.excess x) (with_value_at s.excess other (plus (s.excess other) d) x)
  more_excess other x d h = with_value_at-each (λ n a. AtMost (s.excess n) a) s.excess other (plus (s.excess other) d)
      (AtMost-plus (s.excess other) d h) (λ n _. AtMost-refl (s.excess n)) x

  amounts_given_by : (d : Amount) (p : Port) (kind : PortKind) → AtMost zero_amount d
      → HasAmounts net (after_give_by s b d p kind)
  amounts_given_by d p Sink h = amounts_left (after_give_by s b d p Sink) Idle
      (λ x. record { excess = (nothing_less x).excess; sink = refl; source = refl; flow = (nothing_less x).flow })
      refl refl refl refl k.at_source (NonNeg-plus s.at_sink d k.at_sink h) tt
  amounts_given_by d p Forward h = amounts_left (after_give_by s b d p Forward) Idle
      (λ x. record { excess = more_excess p.other x d h; sink = refl; source = refl; flow = (nothing_less x).flow })
      refl refl refl refl k.at_source k.at_sink tt
  amounts_given_by d p Backward h = amounts_left (after_give_by s b d p Backward) Idle
      (λ x. record { excess = more_excess p.other x d h; sink = refl; source = refl; flow = (nothing_less x).flow })
      refl refl refl refl k.at_source k.at_sink tt
  amounts_given_by d p Source h = amounts_left (after_give_by s b d p Source) Idle
      (λ x. record { excess = (nothing_less x).excess; sink = refl; source = refl; flow = (nothing_less x).flow })
      refl refl refl refl (NonNeg-plus s.at_source d k.at_source h) k.at_sink tt

  -- ---- reads and raises
  amounts_with_operation : (o : Operation Amount) → IsOperation net s b o → HasAmounts net (with_operation s b o)
  amounts_with_operation o is = amounts_left (with_operation s b o) o
      (λ x. record { excess = (nothing_less x).excess; sink = refl; source = refl; flow = (nothing_less x).flow })
      refl refl refl refl k.at_source k.at_sink is

  amounts_raised : (best : Best Amount) → HasAmounts net (after_raise s b best)
  amounts_raised best = amounts_left (after_raise s b best) Idle
      (λ x. record { excess = (nothing_less x).excess; sink = refl; source = refl; flow = (nothing_less x).flow })
      refl refl refl refl k.at_source k.at_sink tt

  -- ---- what an operation may rely on after a read
  op_begun : (Below zero_amount (s.excess b) → 0 < length (ports net b))
      → IsOperation net s b (operation_begun_with (s.excess b))
  op_begun ported = grind (arith, common_steps)

  op_chosen : (have : Amount) (place : ℕ) (best : Option (Best Amount)) (read : Amount) (p : Port) → IsHeld s b have
      → IsBestIfAny net s b best → IsPortOf net b p → IsWithin net s b p read
      → IsOperation net s b (after_label (length (ports net b)) (s.label b) have place best read p (end_label net s p))
  op_chosen have place best read p h i q w = grind (arith, common_steps)

  -- a capacity that is just read
  within_now : (kind : PortKind) (slot : ℕ) → Below zero_amount (capacity_by net s b kind slot)
      → IsWithinBy net s b kind slot (capacity_by net s b kind slot)
  within_now kind slot y = grind (arith, common_steps)

  op_seen : (have : Amount) (place : ℕ) (best : Option (Best Amount)) (p : Port)
      → slice_get (ports net b) place ≡ Some p → IsHeld s b have → IsBestIfAny net s b best
      → IsOperation net s b (after_capacity (length (ports net b)) (s.label b) have place best (capacity net s b p))
  op_seen have place best p e h i =
      cond_both (is_positive (capacity net s b p)) (Scan have place (Some (capacity net s b p)) best)
      (after_port (length (ports net b)) (s.label b) have place best) (IsOperation net s b)
      (λ y. record {
        inside = slice_get_within (ports net b) place p e;
        held = h;
        passed = i;
        present = rw e
            (within_now p.kind p.slot (positive-yes (capacity net s b p) y));
      })
      (λ _. grind (arith, common_steps))

  op_looked_by : (have : Amount) (place : ℕ) (best : Option (Best Amount)) (kind : PortKind) (other slot : ℕ)
      → slice_get (ports net b) place ≡ Some (port_with kind other slot) → IsHeld s b have → IsBestIfAny net s b best
      → IsOperation net s b (after_look_by net s b have place best (port_with kind other slot) kind)
  op_looked_by have place best Sink other slot e h i = op_seen have place best (port_with Sink other slot) e h i
  op_looked_by have place best Forward other slot e h i = op_chosen have place best zero_amount
      (port_with Forward other slot) h i (port-at net b place (port_with Forward other slot) e) tt
  op_looked_by have place best Backward other slot e h i = op_seen have place best (port_with Backward other slot) e h i
  op_looked_by have place best Source other slot e h i = op_seen have place best (port_with Source other slot) e h i

  op_looked : (have : Amount) (place : ℕ) (best : Option (Best Amount)) (q : Option Port)
      → slice_get (ports net b) place ≡ q → IsHeld s b have → IsBestIfAny net s b best
      → IsOperation net s b (after_look net s b have place best q)
  op_looked have place best None e h i = tt
  op_looked have place best (Some p) e h i = op_looked_by have place best p.kind p.other p.slot e h i

  -- ---- each step
  amounts_advance_by : (o : Operation Amount) → s.operation b ≡ o → IsBalanced net s → IsOperation net s b o
      → HasAmounts net (advance_by net s b o)
  amounts_advance_by Idle e l h = amounts_with_operation (operation_begun_with (s.excess b))
      (op_begun (has_port net s b (ap amount_owed e) k l))
  amounts_advance_by (Scan have place None best) e l h = grind (arith, common_steps, amounts_with_operation, op_looked)
  amounts_advance_by (Scan have place (Some read) best) e l h = grind
      (arith, common_steps, amounts_with_operation, op_chosen, port-at)
  amounts_advance_by (PushDue have best) e l h = amounts_pushed_by have best.port.kind best.port.other best.port.slot
      best.capacity h.held h.over.port h.over.within
  amounts_advance_by (TakeDue d p) e l h = amounts_taken d p h.0 h.1
  amounts_advance_by (GiveDue d p) e l h = amounts_given_by d p p.kind (Below-most zero_amount d h.0)
  amounts_advance_by (RaiseDue have best) e l h = amounts_raised best

  pub amounts_advance : IsBalanced net s → HasAmounts net (advance net s b)
  amounts_advance l = amounts_advance_by (s.operation b) refl l (k.operation b)

pub amounts_opening : (net : NetView) → HasAmounts net (opening net)
amounts_opening net = grind (arith, common_steps)
