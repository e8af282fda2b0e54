-- The balances hold at the opening, and each step keeps them.
use Rattle.fixed_worth.proofs.Common.{◌≡◌, ℕ, ◌<◌, ◌==◌, Option, Some, None, length, refl, arith, slice_get, ints}
use Rattle.fixed_worth.proofs.Common.{cond_both, common_steps}
use Rattle.ordered_group.specs.Prelude.{Amount, zero_amount, positive, amount_at}
use Rattle.ordered_group.proofs.Totals.{total-none, total-zero, where_so-zero}
use Rattle.prec_file.specs.Rests.{from_at, to_at}
use Rattle.closure_net.specs.Prelude.{NetView, ports}
use Rattle.closure_net.specs.declared.port.Port.{Port}
use Rattle.machine_law.specs.declared.operations.Best.{Best}
use Rattle.machine_law.specs.declared.operations.Operation.{Operation}
use Rattle.machine_law.specs.declared.operations.Operation.TheVariants.{Idle, Scan, PushDue, TakeDue, GiveDue, RaiseDue}
use Rattle.machine_law.specs.Prelude.{State, opening, capacity, is_positive, operation_begun_with, after_look}
use Rattle.machine_law.specs.Prelude.{after_label_at, push_amount, advance, advance_by, sum_on_way, inflow_at}
use Rattle.machine_law.specs.Prelude.{outflow_at, amount_given_back, amount_drained, HasAmounts, IsOperation}
use Rattle.machine_law.specs.Prelude.{IsBalanced}
use Rattle.machine_law.proofs.Numbers.{same, equal}
use Rattle.machine_law.proofs.Supply.{IsAtRest}
use Rattle.machine_law.proofs.Balance.{balanced_rest, balanced_raised, balanced_pushed, balanced_taken, balanced_given}

-- ---- a read leaves an operation that has pushed nothing

pub rest_begun : (excess : Amount) → IsAtRest (operation_begun_with excess)
rest_begun excess = cond_both (is_positive excess) (Scan excess 0 None None) Idle IsAtRest (λ _. tt) (λ _. tt)

module _ (net : NetView) (s : State) (b : ℕ) where
  pub rest_looked : (have : Amount) (place : ℕ) (best : Option (Best Amount)) (q : Option Port)
      → IsAtRest (after_look net s b have place best q)
  rest_looked have place best q = grind (arith, common_steps)

  pub rest_weighed : (have : Amount) (place : ℕ) (best : Option (Best Amount)) (read : Amount) (q : Option Port)
      → IsAtRest (after_label_at net s b have place best read q)
  rest_weighed have place best read q = grind (arith, common_steps)

  -- ---- each step
  balanced_advance_by : (o : Operation Amount) → b < length net.worths → s.operation b ≡ o → IsOperation net s b o
      → IsBalanced net s → IsBalanced net (advance_by net s b o)
  balanced_advance_by Idle l e h k = balanced_rest net s b l k Idle (operation_begun_with (s.excess b)) e tt
      (rest_begun (s.excess b))
  balanced_advance_by (Scan have place None best) l e h k = grind (
    arith,
    common_steps,
    (slice_get (ports net b) place),
    (balanced_rest net s b l k (Scan have place None best)
        (after_look net s b have place best (slice_get (ports net b) place)) e tt
        (rest_looked have place best (slice_get (ports net b) place))),
    (rest_looked have place best (slice_get (ports net b) place)),
  )
  balanced_advance_by (Scan have place (Some read) best) l e h k = grind (
    arith,
    common_steps,
    (slice_get (ports net b) place),
    (balanced_rest net s b l k (Scan have place (Some read) best)
        (after_label_at net s b have place best read (slice_get (ports net b) place)) e tt
        (rest_weighed have place best read (slice_get (ports net b) place))),
    (rest_weighed have place best read (slice_get (ports net b) place)),
  )
  balanced_advance_by (PushDue have best) l e h k = balanced_pushed net s b l k have best
      (push_amount have best.port.kind best.capacity) best.port e h.over.port
  balanced_advance_by (TakeDue d p) l e h k = balanced_taken net s b l k d p e
  balanced_advance_by (GiveDue d p) l e h k = balanced_given net s b l k d p e
  balanced_advance_by (RaiseDue have best) l e h k = balanced_raised net s b l k have best e

  pub balanced_advance : b < length net.worths → HasAmounts net s → IsBalanced net s → IsBalanced net (advance net s b)
  balanced_advance l k h = balanced_advance_by (s.operation b) l refl (k.operation b) h

-- ---- the opening
module _ (net : NetView) where
  no_inflow : (b : ℕ) → inflow_at net (λ k. zero_amount) b ≡ zero_amount
  unfolding inflow_at
  no_inflow b = total-none _ (length net.pairs) (λ k l. where_so-zero (to_at net.pairs k == b))

  no_outflow : (b : ℕ) → outflow_at net (λ k. zero_amount) b ≡ zero_amount
  unfolding outflow_at
  no_outflow b = total-none _ (length net.pairs) (λ k l. where_so-zero (from_at net.pairs k == b))

  nothing_on_way : (f : Port → Amount → Amount) → sum_on_way net f (λ b. Idle) ≡ zero_amount
  unfolding sum_on_way
  nothing_on_way f = total-zero (length net.worths)

  nothing_given_back : amount_given_back net (λ b. positive (amount_at net.worths b)) ≡ zero_amount
  unfolding amount_given_back
  nothing_given_back = total-none _ (length net.worths)
      (λ b l. equal (record { w = omega (arith, ints); c = omega (arith, ints) }))

  nothing_drained : amount_drained net (λ b. zero_amount) ≡ zero_amount
  unfolding amount_drained
  nothing_drained = total-zero (length net.worths)

  pub balanced_opening : IsBalanced net (opening net)
  balanced_opening = grind
      (arith, common_steps, same, no_inflow, no_outflow, nothing_on_way, equal, nothing_given_back, nothing_drained)
