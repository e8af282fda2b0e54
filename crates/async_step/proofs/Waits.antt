-- What the marks tell of the blocks.
use Rattle.fixed_worth.proofs.Common.{◌≡◌, ◌↔◌, ℕ, ◌<◌, Bool, true, List, length, Option, Some, None, arith}
use Rattle.fixed_worth.proofs.Common.{MatchOption, common_steps}
use Rattle.ordered_group.specs.Sums.{amount_at}
use Rattle.closure_net.specs.Network.{NetView, FlowView}
use Rattle.machine_law.specs.Prelude.{IsQuiet, IsFlowOf}
use Rattle.async_step.specs.Prelude.{mark_at, NoneWithin, IsFirstRound, StateView, state_of, operation_at, IsSized}
use Rattle.async_step.specs.Prelude.{IsState, is_waiting, IsStateOf, IsWaiting}

-- ---- blocks that are done

pub quiet_tells : (net : NetView) (v : StateView) (ready undone : List Bool) → IsState v ready undone
    → length net.worths ≡ length v.operation → NoneWithin undone 0 (length undone) ↔ IsQuiet net (state_of v)
quiet_tells net v ready undone h n = grind (arith, common_steps)

-- ---- blocks that are ready
pub ready_tells : (v : StateView) (b : ℕ) → (is_waiting (amount_at v.excess b) (operation_at v.operation b) ≡ true) ↔
    IsWaiting (state_of v) b
ready_tells v b = grind (arith, common_steps)

pub waits : (v : StateView) (ready undone : List Bool) (from : ℕ) (r : Option ℕ) → IsState v ready undone
    → MatchOption r (NoneWithin ready 0 (length ready))
    (λ b. IsFirstRound (λ c. mark_at ready c ≡ true) (length ready) from b)
    → MatchOption r ((b : ℕ) → b < length v.operation → ¬ (IsWaiting (state_of v) b))
    (λ b. IsFirstRound (IsWaiting (state_of v)) (length v.operation) from b)
waits v ready undone from None h none = grind (arith, common_steps)
waits v ready undone from (Some b) h first = grind (arith, common_steps, ready_tells)

-- ---- the flow of a state
pub flow_of : (net : NetView) (v : StateView) (flow : FlowView) → IsStateOf net v → IsSized v → flow.source ≡ v.source
    → flow.rest ≡ v.flow → flow.sink ≡ v.sink → IsFlowOf net (state_of v) flow
flow_of net v flow over sized s r t = grind (arith, common_steps)
