-- Nothing is lost in any step, and so in any run.
use Rattle.fixed_worth.proofs.Common.{◌≡◌, ℕ, ◌<◌, Some, None, List, [], ◌∷◌, length, All, refl, ap, sym, subst, arith}
use Rattle.fixed_worth.proofs.Common.{ints, common_steps}
use Rattle.ordered_group.specs.Amount.{Amount, zero_amount, plus, minus, AtMost}
use Rattle.ordered_group.proofs.Order.{AtMost-both}
use Rattle.ordered_group.proofs.Totals.{total-none, total-zero, total_nonneg, total_term, total_none_each}
use Rattle.prec_file.specs.Rests.{IsKnown}
use Rattle.closure_net.specs.Network.{NetView}
use Rattle.closure_net.specs.declared.port.Port.{Port}
use Rattle.closure_net.specs.declared.port.PortKind.{PortKind}
use Rattle.closure_net.specs.declared.port.PortKind.TheVariants.{Sink, Forward, Backward, Source}
use Rattle.machine_law.specs.declared.events.Event.{Event}
use Rattle.machine_law.specs.declared.operations.Operation.{Operation}
use Rattle.machine_law.specs.declared.operations.Operation.TheVariants.{Idle, Scan, PushDue, TakeDue, GiveDue, RaiseDue}
use Rattle.machine_law.specs.Prelude.{State, with_value_at, opening, IsQuiet, IsEnd, operation_begun_with, after_take}
use Rattle.machine_law.specs.Prelude.{after_give_by, advance_by, Run, HasAmounts, IsOperation, IsLawful, all_given}
use Rattle.machine_law.specs.Prelude.{standing_excess, amount_carried, amount_aloft, IsConserved, IsWhole, RunsConserve}
use Rattle.machine_law.proofs.Numbers.{Same, same, equal}
use Rattle.machine_law.proofs.Points.{total-with_value_at}
use Rattle.machine_law.proofs.PortLists.{port_with}
use Rattle.machine_law.proofs.Supply.{IsAtRest}
use Rattle.machine_law.proofs.Balanced.{rest_begun, rest_looked, rest_weighed}
use Rattle.machine_law.proofs.Law.{steps_keep_law, lawful_opening}

-- ---- the sums after one change
standing_excess-with_value_at : (net : NetView) (f : ℕ → Amount) (k : ℕ) (v : Amount) → k < length net.worths
    → Same (plus (standing_excess net (with_value_at f k v)) (f k)) (plus (standing_excess net f) v)
unfolding standing_excess
standing_excess-with_value_at net f k v l = total-with_value_at (λ _ a. a) f k v (length net.worths) l

amount_aloft-with_value_at : (net : NetView) (f : ℕ → Operation Amount) (k : ℕ) (old new : Operation Amount)
    → k < length net.worths → f k ≡ old → Same (plus (amount_aloft net (with_value_at f k new)) (amount_carried old))
    (plus (amount_aloft net f) (amount_carried new))
unfolding amount_aloft
amount_aloft-with_value_at net f k old new l e = rw (← e)
    (total-with_value_at (λ _ a. amount_carried a) f k new (length net.worths) l)

rest_carried : (o : Operation Amount) → IsAtRest o → amount_carried o ≡ zero_amount
rest_carried o h = grind (arith, common_steps)

-- ---- each step
module _ (net : NetView) (known : All (IsKnown (length net.worths)) net.pairs) (s : State) (b : ℕ)
    (l : b < length net.worths) (k : IsConserved net s) where
  -- an operation that carries nothing goes on to one that carries nothing
  stays : (old new : Operation Amount) → s.operation b ≡ old → amount_carried old ≡ zero_amount
      → amount_carried new ≡ zero_amount
      → plus (plus (standing_excess net s.excess) (amount_aloft net (with_value_at s.operation b new)))
      (plus s.at_source s.at_sink) ≡ all_given net
  stays old new e x y =
      let a = amount_aloft-with_value_at net s.operation b old new l e in
      let p = same x in
      let q = same y in
      let h = same k in
      equal (record { w = omega (arith, ints, a, p, q, h); c = omega (arith, ints, a, p, q, h) })

  conserved_taken : (d : Amount) (p : Port) → s.operation b ≡ TakeDue d p → IsConserved net (after_take s b d p)
  conserved_taken d p e =
      let a = amount_aloft-with_value_at net s.operation b (TakeDue d p) (GiveDue d p) l e in
      let x = standing_excess-with_value_at net s.excess b (minus (s.excess b) d) l in
      let h = same k in
      equal (record { w = omega (arith, ints, a, x, h); c = omega (arith, ints, a, x, h) })

  given_into : (d : Amount) (p : Port) (other : ℕ) → other < length net.worths → s.operation b ≡ GiveDue d p
      → plus (plus (standing_excess net (with_value_at s.excess other (plus (s.excess other) d)))
      (amount_aloft net (with_value_at s.operation b Idle))) (plus s.at_source s.at_sink) ≡ all_given net
  given_into d p other i e =
      let a = amount_aloft-with_value_at net s.operation b (GiveDue d p) Idle l e in
      let x = standing_excess-with_value_at net s.excess other (plus (s.excess other) d) i in
      let h = same k in
      equal (record { w = omega (arith, ints, a, x, h); c = omega (arith, ints, a, x, h) })

  conserved_given : (d : Amount) (kind : PortKind) (other slot : ℕ)
      → s.operation b ≡ GiveDue d (port_with kind other slot) → IsEnd net b kind other slot
      → IsConserved net (after_give_by s b d (port_with kind other slot) kind)
  conserved_given d Sink other slot e q =
      let a = amount_aloft-with_value_at net s.operation b (GiveDue d (port_with Sink other slot)) Idle l e in
      let h = same k in
      equal (record { w = omega (arith, ints, a, h); c = omega (arith, ints, a, h) })
  conserved_given d Forward other slot e q = given_into d (port_with Forward other slot) other
      (subst (λ (y : ℕ). y < length net.worths) q.2 (known slot (0, 0) q.0).1) e
  conserved_given d Backward other slot e q = given_into d (port_with Backward other slot) other
      (subst (λ (y : ℕ). y < length net.worths) q.2 (known slot (0, 0) q.0).0) e
  conserved_given d Source other slot e q =
      let a = amount_aloft-with_value_at net s.operation b (GiveDue d (port_with Source other slot)) Idle l e in
      let h = same k in
      equal (record { w = omega (arith, ints, a, h); c = omega (arith, ints, a, h) })

  conserved_by : (o : Operation Amount) → s.operation b ≡ o → IsOperation net s b o
      → IsConserved net (advance_by net s b o)
  conserved_by Idle e h = stays Idle (operation_begun_with (s.excess b)) e refl
      (rest_carried (operation_begun_with (s.excess b)) (rest_begun (s.excess b)))
  conserved_by (Scan have place None best) e h = grind (arith, common_steps, stays, rest_carried, rest_looked)
  conserved_by (Scan have place (Some read) best) e h = grind (arith, common_steps, stays, rest_carried, rest_weighed)
  conserved_by (PushDue have best) e h = grind (arith, common_steps, stays)
  conserved_by (TakeDue d p) e h = conserved_taken d p e
  conserved_by (GiveDue d p) e h = conserved_given d p.kind p.other p.slot e h.1
  conserved_by (RaiseDue have best) e h = stays (RaiseDue have best) Idle e refl refl

-- ---- the opening, and runs
conserved_opening : (net : NetView) → IsConserved net (opening net)
unfolding standing_excess amount_aloft all_given
conserved_opening net =
    let z = same (total-zero (length net.worths)) in
    equal (record { w = omega (arith, ints, z); c = omega (arith, ints, z) })

conserved_run : (net : NetView) (s : State) (es : List Event) (t : State)
    → All (IsKnown (length net.worths)) net.pairs → IsLawful net s → IsConserved net s → Run net s es t
    → IsLawful net t × IsConserved net t
conserved_run net s [] t known h k r = (subst (IsLawful net) (sym r) h, subst (IsConserved net) (sym r) k)
conserved_run net s (e ∷ es) t known h k r =
    let st = r.1 in
    conserved_run net r.0 es t known (steps_keep_law net s e r.0 h st)
    (subst (IsConserved net) (sym st.after)
    (conserved_by net known s e.block st.block k (s.operation e.block) refl (h.amounts.operation e.block))) r.2

-- ---- what follows
module _ (net : NetView) (s : State) (h : HasAmounts net s) (k : IsConserved net s) where
  carried_nonneg : (b : ℕ) (o : Operation Amount) → IsOperation net s b o → AtMost zero_amount (amount_carried o)
  carried_nonneg b o i = grind (arith, common_steps)

  aloft_nonneg : AtMost zero_amount (amount_aloft net s.operation)
  unfolding amount_aloft
  aloft_nonneg = total_nonneg (λ b. amount_carried (s.operation b)) (length net.worths)
      (λ b _. carried_nonneg b (s.operation b) (h.operation b))

  standing_nonneg : AtMost zero_amount (standing_excess net s.excess)
  unfolding standing_excess
  standing_nonneg = total_nonneg s.excess (length net.worths) (λ b _. h.excess b)

  stands_most : (b : ℕ) → b < length net.worths → AtMost (s.excess b) (standing_excess net s.excess)
  unfolding standing_excess
  stands_most b l = total_term s.excess b (length net.worths) l (λ i _. h.excess i)

  -- nothing stands and nothing is carried
  none_stands : standing_excess net s.excess ≡ zero_amount → (b : ℕ) → b < length net.worths → s.excess b ≡ zero_amount
  unfolding standing_excess
  none_stands z = total_none_each s.excess (length net.worths) (λ b _. h.excess b) z

  none_carried : amount_aloft net s.operation ≡ zero_amount → (b : ℕ) → b < length net.worths
      → amount_carried (s.operation b) ≡ zero_amount
  unfolding amount_aloft
  none_carried z = total_none_each (λ b. amount_carried (s.operation b)) (length net.worths)
      (λ b _. carried_nonneg b (s.operation b) (h.operation b)) z

  idle_by : (b : ℕ) (o : Operation Amount) → IsOperation net s b o → s.excess b ≡ zero_amount
      → amount_carried o ≡ zero_amount → o ≡ Idle
  idle_by b o i x c = grind (arith, common_steps)

  quiet_from : plus s.at_source s.at_sink ≡ all_given net → IsQuiet net s
  quiet_from full =
      let g = same k in
      let f = same full in
      let a = aloft_nonneg in
      let t = standing_nonneg in
      let stands : standing_excess net s.excess ≡ zero_amount = AtMost-both _ _
      (record { worths = omega (arith, ints, g, f, a, t); counts = λ i. omega (arith, ints, g, f, a, t, i) }) t in
      let carries : amount_aloft net s.operation ≡ zero_amount = AtMost-both _ _
      (record { worths = omega (arith, ints, g, f, a, t); counts = λ i. omega (arith, ints, g, f, a, t, i) }) a in
      record {
        excess = none_stands stands;
        operation = λ b l. idle_by b (s.operation b) (h.operation b) (none_stands stands b l)
            (none_carried carries b l);
      }

  stands_zero : IsQuiet net s → standing_excess net s.excess ≡ zero_amount
  unfolding standing_excess
  stands_zero q = total-none s.excess (length net.worths) q.excess

  carries_zero : IsQuiet net s → amount_aloft net s.operation ≡ zero_amount
  unfolding amount_aloft
  carries_zero q = total-none (λ b. amount_carried (s.operation b)) (length net.worths)
      (λ b l. ap amount_carried (q.operation b l))

  pub whole : IsWhole net s
  whole =
      let g = same k in
      let a = aloft_nonneg in
      let t = standing_nonneg in
      let u = h.at_source in
      let v = h.at_sink in
      record {
        conserved = k;
        excess_most = λ b l. let m = stands_most b l in record
            { worths = omega (arith, ints, g, a, u, v, m); counts = λ i. omega (arith, ints, g, a, u, v, m, i) };
        source_most = record {
          worths = omega (arith, ints, g, a, t, v);
          counts = λ i. omega
              (arith, ints, g, a, t, v, i);
        };
        sink_most = record {
          worths = omega (arith, ints, g, a, t, u);
          counts = λ i. omega
              (arith, ints, g, a, t, u, i);
        };
        arrived = (
          quiet_from,
          λ q. let x = same (stands_zero q) in let y = same (carries_zero q) in equal
              (record { w = omega (arith, ints, g, x, y); c = omega (arith, ints, g, x, y) }),
        );
      }

pub runs_conserve : RunsConserve
runs_conserve net es t known r = grind (
  arith,
  common_steps,
  (conserved_run net (opening net) es t known (lawful_opening net) (conserved_opening net) r),
  (lawful_opening net),
  (conserved_opening net),
  (whole net t (conserved_run net (opening net) es t known (lawful_opening net) (conserved_opening net) r).0.amounts
      (conserved_run net (opening net) es t known (lawful_opening net) (conserved_opening net) r).1),
)
