-- What is coming to a block isn't negative, and a block with excess has ports.
use Rattle.fixed_worth.proofs.Common.{◌≡◌, ℕ, ◌<◌, ◌==◌, inl, inr, length, refl, arith, ints, cases_eq, cases_lt}
use Rattle.fixed_worth.proofs.Common.{ne_eqb, common_steps}
use Rattle.ordered_group.specs.Prelude.{zero_amount, AtMost, Below, where_so}
use Rattle.ordered_group.proofs.Signs.{sign_or}
use Rattle.ordered_group.proofs.Totals.{total_nonneg, total-none, where_nonneg, where_not}
use Rattle.prec_file.specs.Rests.{from_at, to_at}
use Rattle.closure_net.specs.Prelude.{NetView, ports, source_port, backward_port}
use Rattle.machine_law.specs.Prelude.{State, amount_owed, on_way, sum_on_way, amount_landing, amount_coming, inflow_at}
use Rattle.machine_law.specs.Prelude.{outflow_at, HasAmounts, IsBalanced}
use Rattle.machine_law.proofs.Numbers.{same, Below-absurd}
use Rattle.machine_law.proofs.PortLists.{has_backward, has_open, has_some}

pub coming_nonneg : (net : NetView) (s : State) (x : ℕ) → HasAmounts net s → AtMost zero_amount (amount_coming net s x)
unfolding sum_on_way
coming_nonneg net s x k = total_nonneg (λ b. on_way (amount_landing x) (s.operation b)) (length net.worths)
    (λ b _. grind (arith, common_steps))

-- where no pair ends at b, nothing comes in over pairs
inflow_zero : (net : NetView) (s : State) (b : ℕ) → length (ports net b) ≡ 0 → inflow_at net s.flow b ≡ zero_amount
unfolding inflow_at
inflow_zero net s b e = total-none (λ k. where_so (to_at net.pairs k == b) (s.flow k)) (length net.pairs) (λ k l.
    elim (cases_eq (to_at net.pairs k) b) [
      | inl at ↦ absurd (let n = has_some (ports net b) (backward_port (from_at net.pairs) k)
          (has_backward net b k l at) in omega (arith, e, n))
      | inr ne ↦ where_not (to_at net.pairs k == b) (s.flow k) (ne_eqb (to_at net.pairs k) b ne)
    ])

outflow_nonneg : (net : NetView) (s : State) (b : ℕ) → HasAmounts net s → AtMost zero_amount (outflow_at net s.flow b)
unfolding outflow_at
outflow_nonneg net s b k = total_nonneg (λ i. where_so (from_at net.pairs i == b) (s.flow i)) (length net.pairs)
    (λ i _. where_nonneg (from_at net.pairs i == b) (s.flow i) (k.flow i))

-- an idle block with excess has a port
pub has_port : (net : NetView) (s : State) (b : ℕ) → amount_owed (s.operation b) ≡ zero_amount → HasAmounts net s
    → IsBalanced net s → Below zero_amount (s.excess b) → 0 < length (ports net b)
has_port net s b e k h full = elim (cases_lt 0 (length (ports net b))) [
  | inl l ↦ l
  | inr z ↦ elim (sign_or (s.source b)) [
    | inl m ↦
        let none = same (inflow_zero net s b (omega (arith, z))) in
        let owes = same e in
        let bal = same (h.blocks b) in
        let c = coming_nonneg net s b k in
        let u = outflow_nonneg net s b k in
        let t = k.sink b in
        Below-absurd full (record {
          worths = omega (arith, ints, none, owes, bal, c, u, t, m);
          counts = λ i. omega
              (arith, ints, none, owes, bal, c, u, t, m, i);
        })
    | inr o ↦ has_some (ports net b) (source_port b) (has_open net s b (source_port b) k (refl, refl) o)
  ]
]
