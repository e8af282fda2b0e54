-- Each step keeps the balances.
use Rattle.fixed_worth.proofs.Common.{◌≡◌, ℕ, ◌<◌, ◌==◌, length, refl, arith, ints, common_steps}
use Rattle.ordered_group.specs.Prelude.{Amount, plus, minus, where_so}
use Rattle.ordered_group.proofs.Totals.{where_so-plus, where_so-minus}
use Rattle.closure_net.specs.Network.{NetView}
use Rattle.closure_net.specs.declared.port.Port.{Port}
use Rattle.closure_net.specs.declared.port.PortKind.{PortKind}
use Rattle.closure_net.specs.declared.port.PortKind.TheVariants.{Sink, Forward, Backward, Source}
use Rattle.machine_law.specs.declared.operations.Best.{Best}
use Rattle.machine_law.specs.declared.operations.Operation.{Operation}
use Rattle.machine_law.specs.declared.operations.Operation.TheVariants.{Idle, PushDue, TakeDue, GiveDue, RaiseDue}
use Rattle.machine_law.specs.Prelude.{State, with_value_at, IsEnd, IsPortOf, with_operation, after_push, after_push_by}
use Rattle.machine_law.specs.Prelude.{after_take, after_give, after_give_by, after_raise, sum_on_way, amount_landing_by}
use Rattle.machine_law.specs.Prelude.{into_sink, into_source, amount_coming_to_sink, amount_coming_to_source}
use Rattle.machine_law.specs.Prelude.{amount_given_back, amount_drained, balance, supply, IsBalanced}
use Rattle.machine_law.proofs.Numbers.{Same, same, equal}
use Rattle.machine_law.proofs.Points.{where-with_value_at}
use Rattle.machine_law.proofs.Sums.{inflow-plus, outflow-plus, inflow-minus, outflow-minus, sum_on_way-with_value_at}
use Rattle.machine_law.proofs.Sums.{amount_given_back-more, amount_drained-more}
use Rattle.machine_law.proofs.PortLists.{port_with}
use Rattle.machine_law.proofs.Supply.{IsAtRest, way_rest, supply_rest, supply_pushed, supply_taken, supply_given}

module _ (net : NetView) (s : State) (b : ℕ) (l : b < length net.worths) (k : IsBalanced net s) where
  -- ---- reads and raises
  pub balanced_rest : (old new : Operation Amount) → s.operation b ≡ old → IsAtRest old → IsAtRest new
      → IsBalanced net (with_operation s b new)
  balanced_rest old new e r n = grind (arith, common_steps, same, supply_rest, equal, way_rest)

  pub balanced_raised : (have : Amount) (best : Best Amount) → s.operation b ≡ RaiseDue have best
      → IsBalanced net (after_raise s b best)
  balanced_raised have best e = let r = balanced_rest (RaiseDue have best) Idle e tt tt in record
      { blocks = r.blocks; at_source = r.at_source; at_sink = r.at_sink }

  -- ---- the capacity step
  balance_pushed : (d : Amount) (kind : PortKind) (other slot x : ℕ) → IsEnd net b kind other slot
      → Same (balance net (after_push_by s b d (port_with kind other slot) kind) x)
      (minus (plus (balance net s x) (amount_landing_by kind other x d)) (where_so (b == x) d))
  balance_pushed d Sink other slot x q =
      let i = where-with_value_at (λ a. a) s.sink b (s.sink b) (plus (s.sink b) d) x refl in
      let m = same (where_so-plus (b == x) (s.sink b) d) in
      record { w = omega (arith, ints, i, m); c = omega (arith, ints, i, m) }
  balance_pushed d Forward other slot x q =
      let i = inflow-plus net s.flow slot other d x q.0 q.2 in
      let o = outflow-plus net s.flow slot b d x q.0 q.1 in
      record { w = omega (arith, ints, i, o); c = omega (arith, ints, i, o) }
  balance_pushed d Backward other slot x q =
      let i = inflow-minus net s.flow slot b d x q.0 q.1 in
      let o = outflow-minus net s.flow slot other d x q.0 q.2 in
      record { w = omega (arith, ints, i, o); c = omega (arith, ints, i, o) }
  balance_pushed d Source other slot x q =
      let i = where-with_value_at (λ a. a) s.source b (s.source b) (minus (s.source b) d) x refl in
      let m = same (where_so-minus (b == x) (s.source b) d) in
      record { w = omega (arith, ints, i, m); c = omega (arith, ints, i, m) }

  way_pushed : (f : Port → Amount → Amount) (have : Amount) (best : Best Amount) (d : Amount) (p : Port)
      → s.operation b ≡ PushDue have best → Same (sum_on_way net f (with_value_at s.operation b (TakeDue d p)))
      (plus (sum_on_way net f s.operation) (f p d))
  way_pushed f have best d p e = grind
      (arith, common_steps, (sum_on_way-with_value_at net f s.operation b (PushDue have best) (TakeDue d p) l e))

  -- what the source has got back, and what the sink has got
  source_pushed : (have : Amount) (best : Best Amount) (d : Amount) (kind : PortKind) (other slot : ℕ)
      → s.operation b ≡ PushDue have best
      → (let t : State = after_push_by s b d (port_with kind other slot) kind in Same (amount_given_back net t.source)
      (plus t.at_source (amount_coming_to_source net t)))
  source_pushed have best d Sink other slot e = grind (
    arith,
    common_steps,
    (same k.at_source),
    (way_pushed into_source have best d (port_with Sink other slot) e),
    (port_with Sink other slot),
  )
  source_pushed have best d Forward other slot e = grind (
    arith,
    common_steps,
    (same k.at_source),
    (way_pushed into_source have best d (port_with Forward other slot) e),
    (port_with Forward other slot),
  )
  source_pushed have best d Backward other slot e = grind (
    arith,
    common_steps,
    (same k.at_source),
    (way_pushed into_source have best d (port_with Backward other slot) e),
    (port_with Backward other slot),
  )
  source_pushed have best d Source other slot e =
      let h = same k.at_source in
      let v = way_pushed into_source have best d (port_with Source other slot) e in
      let g = amount_given_back-more net s.source b d l in
      record { w = omega (arith, ints, h, v, g); c = omega (arith, ints, h, v, g) }

  sink_pushed : (have : Amount) (best : Best Amount) (d : Amount) (kind : PortKind) (other slot : ℕ)
      → s.operation b ≡ PushDue have best
      → (let t : State = after_push_by s b d (port_with kind other slot) kind in Same (amount_drained net t.sink)
      (plus t.at_sink (amount_coming_to_sink net t)))
  sink_pushed have best d Sink other slot e = grind (
    arith,
    common_steps,
    (same k.at_sink),
    (way_pushed into_sink have best d (port_with Sink other slot) e),
    (amount_drained-more net s.sink b d l),
    (port_with Sink other slot),
  )
  sink_pushed have best d Forward other slot e = grind (
    arith,
    common_steps,
    (same k.at_sink),
    (way_pushed into_sink have best d (port_with Forward other slot) e),
    (port_with Forward other slot),
  )
  sink_pushed have best d Backward other slot e = grind (
    arith,
    common_steps,
    (same k.at_sink),
    (way_pushed into_sink have best d (port_with Backward other slot) e),
    (port_with Backward other slot),
  )
  sink_pushed have best d Source other slot e = grind (
    arith,
    common_steps,
    (same k.at_sink),
    (way_pushed into_sink have best d (port_with Source other slot) e),
    (port_with Source other slot),
  )

  balanced_pushed_by : (have : Amount) (best : Best Amount) (d : Amount) (kind : PortKind) (other slot : ℕ)
      → s.operation b ≡ PushDue have best → IsEnd net b kind other slot
      → IsBalanced net (after_push_by s b d (port_with kind other slot) kind)
  balanced_pushed_by have best d kind other slot e q = record {
    blocks = λ x.
        let h = same (k.blocks x) in
        let v = supply_pushed net s b l x have best d (port_with kind other slot) kind e in
        let c = balance_pushed d kind other slot x q in
        equal (record { w = omega (arith, ints, h, v, c); c = omega (arith, ints, h, v, c) });
    at_source = equal (source_pushed have best d kind other slot e);
    at_sink = equal (sink_pushed have best d kind other slot e);
  }

  pub balanced_pushed : (have : Amount) (best : Best Amount) (d : Amount) (p : Port)
      → s.operation b ≡ PushDue have best → IsPortOf net b p → IsBalanced net (after_push s b d p)
  balanced_pushed have best d p e q = balanced_pushed_by have best d p.kind p.other p.slot e q

  -- ---- the excess steps
  way_taken : (f : Port → Amount → Amount) (d : Amount) (p : Port) → s.operation b ≡ TakeDue d p
      → Same (sum_on_way net f (with_value_at s.operation b (GiveDue d p))) (sum_on_way net f s.operation)
  way_taken f d p e = grind
      (arith, common_steps, (sum_on_way-with_value_at net f s.operation b (TakeDue d p) (GiveDue d p) l e))

  pub balanced_taken : (d : Amount) (p : Port) → s.operation b ≡ TakeDue d p → IsBalanced net (after_take s b d p)
  balanced_taken d p e = grind (arith, common_steps, same, supply_taken, equal, way_taken)

  way_given : (f : Port → Amount → Amount) (d : Amount) (p : Port) → s.operation b ≡ GiveDue d p
      → Same (plus (sum_on_way net f (with_value_at s.operation b Idle)) (f p d)) (sum_on_way net f s.operation)
  way_given f d p e = grind (arith, common_steps, (sum_on_way-with_value_at net f s.operation b (GiveDue d p) Idle l e))

  balanced_given_by : (d : Amount) (kind : PortKind) (other slot : ℕ)
      → s.operation b ≡ GiveDue d (port_with kind other slot)
      → ((x : ℕ) → balance net (after_give_by s b d (port_with kind other slot) kind) x ≡ supply net
      (after_give_by s b d (port_with kind other slot) kind) x)
      → IsBalanced net (after_give_by s b d (port_with kind other slot) kind)
  balanced_given_by d Sink other slot e blocks =
      let h = same k.at_source in
      let i = same k.at_sink in
      let u = way_given into_source d (port_with Sink other slot) e in
      let v = way_given into_sink d (port_with Sink other slot) e in
      record {
        blocks = blocks;
        at_source = equal
            (record { w = omega (arith, ints, h, u); c = omega (arith, ints, h, u) });
        at_sink = equal
            (record { w = omega (arith, ints, i, v); c = omega (arith, ints, i, v) });
      }
  balanced_given_by d Forward other slot e blocks =
      let h = same k.at_source in
      let i = same k.at_sink in
      let u = way_given into_source d (port_with Forward other slot) e in
      let v = way_given into_sink d (port_with Forward other slot) e in
      record {
        blocks = blocks;
        at_source = equal
            (record { w = omega (arith, ints, h, u); c = omega (arith, ints, h, u) });
        at_sink = equal
            (record { w = omega (arith, ints, i, v); c = omega (arith, ints, i, v) });
      }
  balanced_given_by d Backward other slot e blocks =
      let h = same k.at_source in
      let i = same k.at_sink in
      let u = way_given into_source d (port_with Backward other slot) e in
      let v = way_given into_sink d (port_with Backward other slot) e in
      record {
        blocks = blocks;
        at_source = equal
            (record { w = omega (arith, ints, h, u); c = omega (arith, ints, h, u) });
        at_sink = equal
            (record { w = omega (arith, ints, i, v); c = omega (arith, ints, i, v) });
      }
  balanced_given_by d Source other slot e blocks =
      let h = same k.at_source in
      let i = same k.at_sink in
      let u = way_given into_source d (port_with Source other slot) e in
      let v = way_given into_sink d (port_with Source other slot) e in
      record {
        blocks = blocks;
        at_source = equal
            (record { w = omega (arith, ints, h, u); c = omega (arith, ints, h, u) });
        at_sink = equal
            (record { w = omega (arith, ints, i, v); c = omega (arith, ints, i, v) });
      }

  balance_given : (d : Amount) (p : Port) (kind : PortKind) (x : ℕ)
      → balance net (after_give_by s b d p kind) x ≡ balance net s x
  balance_given d p kind x = grind (arith, common_steps)

  pub balanced_given : (d : Amount) (p : Port) → s.operation b ≡ GiveDue d p → IsBalanced net (after_give s b d p)
  balanced_given d p e = balanced_given_by d p.kind p.other p.slot e (λ x.
      let h = same (k.blocks x) in
      let i = same (balance_given d p p.kind x) in
      let v = supply_given net s b l x d p e in
      equal (record { w = omega (arith, ints, h, i, v); c = omega (arith, ints, h, i, v) }))
