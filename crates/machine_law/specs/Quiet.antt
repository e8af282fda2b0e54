-- What a quiet state holds.
use Rattle.std.specs.Prelude.{◌≡◌, ℕ, ◌<◌, Bool, List, length, All}
use Rattle.ordered_group.specs.Sums.{amount_at}
use Rattle.prec_file.specs.Rests.{IsKnown}
use Rattle.closure_net.specs.Prelude.{NetView, FlowView, FlowFits, IsClosed, IsGreatest, IsTight, IsGreatestFlow}
use Rattle.closure_net.specs.Prelude.{IsReached}
use Rattle.machine_law.specs.declared.events.Event.{Event}
use Rattle.machine_law.specs.States.{State, opening, IsQuiet}
use Rattle.machine_law.specs.Steps.{Run}

-- the flow has the net's lengths, and the amounts of the state
pub record IsFlowOf (net : NetView) (s : State) (flow : FlowView) : Type 0 where
  pub fits : FlowFits net flow
  pub source : (b : ℕ) → b < length net.worths → amount_at flow.source b ≡ s.source b
  pub rest : (k : ℕ) → k < length net.pairs → amount_at flow.rest k ≡ s.flow k
  pub sink : (b : ℕ) → b < length net.worths → amount_at flow.sink b ≡ s.sink b

-- the flow is a greatest one, and what the source reaches in what it leaves is closed, tight, and a greatest closed set
pub record IsSolved (net : NetView) (flow : FlowView) : Type 0 where
  pub greatest : IsGreatestFlow net flow
  pub closed : (e : ℕ → Bool) → IsReached net flow e → IsClosed net.pairs e
  pub tight : (e : ℕ → Bool) → IsReached net flow e → IsTight net flow e
  pub greatest_set : (e : ℕ → Bool) → IsReached net flow e → IsGreatest net e

-- where a run ends quiet, in a net whose pairs are of its blocks, its flow solves the net
abbrev pub QuietSolves : Type 0
QuietSolves = (net : NetView) (es : List Event) (t : State) (flow : FlowView)
    → All (IsKnown (length net.worths)) net.pairs → Run net (opening net) es t → IsQuiet net t → IsFlowOf net t flow
    → IsSolved net flow
