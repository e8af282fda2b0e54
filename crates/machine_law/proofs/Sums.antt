-- The sums of a state after one change.
use Rattle.fixed_worth.proofs.Common.{◌≡◌, ℕ, ◌<◌, ◌==◌, length, arith, ints}
use Rattle.ordered_group.specs.Prelude.{Amount, plus, minus, positive, where_so, amount_at}
use Rattle.ordered_group.proofs.Totals.{where_so-plus, where_so-minus}
use Rattle.prec_file.specs.Rests.{from_at, to_at}
use Rattle.closure_net.specs.Network.{NetView}
use Rattle.closure_net.specs.declared.port.Port.{Port}
use Rattle.machine_law.specs.declared.operations.Operation.{Operation}
use Rattle.machine_law.specs.Prelude.{with_value_at, on_way, sum_on_way, inflow_at, outflow_at, amount_given_back}
use Rattle.machine_law.specs.Prelude.{amount_drained}
use Rattle.machine_law.proofs.Numbers.{Same, same}
use Rattle.machine_law.proofs.Points.{total-with_value_at}

-- ---- the flow of pair k changes, which ends at y
module _ (net : NetView) (flow : ℕ → Amount) (k y : ℕ) (d : Amount) (x : ℕ) (l : k < length net.pairs) where
  pub inflow-plus : to_at net.pairs k ≡ y → Same (inflow_at net (with_value_at flow k (plus (flow k) d)) x)
      (plus (inflow_at net flow x) (where_so (y == x) d))
  unfolding inflow_at
  inflow-plus e = rw (← e) (
      let t = total-with_value_at (λ i a. where_so (to_at net.pairs i == x) a) flow k (plus (flow k) d)
      (length net.pairs) l in
      let g = same (where_so-plus (to_at net.pairs k == x) (flow k) d) in
      record { w = omega (arith, ints, t, g); c = omega (arith, ints, t, g) })

  pub outflow-plus : from_at net.pairs k ≡ y → Same (outflow_at net (with_value_at flow k (plus (flow k) d)) x)
      (plus (outflow_at net flow x) (where_so (y == x) d))
  unfolding outflow_at
  outflow-plus e = rw (← e) (
      let t = total-with_value_at (λ i a. where_so (from_at net.pairs i == x) a) flow k (plus (flow k) d)
      (length net.pairs) l in
      let g = same (where_so-plus (from_at net.pairs k == x) (flow k) d) in
      record { w = omega (arith, ints, t, g); c = omega (arith, ints, t, g) })

  pub inflow-minus : to_at net.pairs k ≡ y → Same (inflow_at net (with_value_at flow k (minus (flow k) d)) x)
      (minus (inflow_at net flow x) (where_so (y == x) d))
  unfolding inflow_at
  inflow-minus e = rw (← e) (
      let t = total-with_value_at (λ i a. where_so (to_at net.pairs i == x) a) flow k (minus (flow k) d)
      (length net.pairs) l in
      let g = same (where_so-minus (to_at net.pairs k == x) (flow k) d) in
      record { w = omega (arith, ints, t, g); c = omega (arith, ints, t, g) })

  pub outflow-minus : from_at net.pairs k ≡ y → Same (outflow_at net (with_value_at flow k (minus (flow k) d)) x)
      (minus (outflow_at net flow x) (where_so (y == x) d))
  unfolding outflow_at
  outflow-minus e = rw (← e) (
      let t = total-with_value_at (λ i a. where_so (from_at net.pairs i == x) a) flow k (minus (flow k) d)
      (length net.pairs) l in
      let g = same (where_so-minus (from_at net.pairs k == x) (flow k) d) in
      record { w = omega (arith, ints, t, g); c = omega (arith, ints, t, g) })

-- ---- a block gets another operation
pub sum_on_way-with_value_at : (net : NetView) (f : Port → Amount → Amount) (operation : ℕ → Operation Amount) (b : ℕ)
    (old new : Operation Amount) → b < length net.worths → operation b ≡ old
    → Same (plus (sum_on_way net f (with_value_at operation b new)) (on_way f old))
    (plus (sum_on_way net f operation) (on_way f new))
unfolding sum_on_way
sum_on_way-with_value_at net f operation b old new l e = rw (← e)
    (total-with_value_at (λ _ a. on_way f a) operation b new (length net.worths) l)

-- ---- a block gives back to the source, or gives to the sink
pub amount_given_back-more : (net : NetView) (source : ℕ → Amount) (b : ℕ) (d : Amount) → b < length net.worths
    → Same (amount_given_back net (with_value_at source b (minus (source b) d))) (plus (amount_given_back net source) d)
unfolding amount_given_back
amount_given_back-more net source b d l =
    let t = total-with_value_at (λ i a. minus (positive (amount_at net.worths i)) a) source b (minus (source b) d)
    (length net.worths) l in
    record { w = omega (arith, ints, t); c = omega (arith, ints, t) }

pub amount_drained-more : (net : NetView) (sink : ℕ → Amount) (b : ℕ) (d : Amount) → b < length net.worths
    → Same (amount_drained net (with_value_at sink b (plus (sink b) d))) (plus (amount_drained net sink) d)
unfolding amount_drained
amount_drained-more net sink b d l =
    let t = total-with_value_at (λ i a. a) sink b (plus (sink b) d) (length net.worths) l in
    record { w = omega (arith, ints, t); c = omega (arith, ints, t) }
