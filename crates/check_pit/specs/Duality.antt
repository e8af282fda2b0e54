-- The law that a check stands on.
use Rattle.std.specs.Prelude.{ℕ, Bool, length}
use Rattle.prec_file.specs.Rests.{IsRests}
use Rattle.closure_net.specs.Prelude.{NetView, FlowView, IsClosed, IsGreatest, IsFlow, IsTight, IsGreatestFlow}

-- no closed set sums to more than a tight one, and no flow takes more from the source than the flow that shows it
pub record TightIsGreatest (net : NetView) (flow : FlowView) (e : ℕ → Bool) : Type 0 where
  pub greatest_set : IsGreatest net e
  pub greatest_flow : IsGreatestFlow net flow

-- weak duality of closed sets and flows (Picard 1976), for every net whose pairs are of its blocks
abbrev pub WeakDuality : Type 0
WeakDuality = (net : NetView) (flow : FlowView) (e : ℕ → Bool) → IsRests (record { blocks = length net.worths; pairs = net.pairs }) → IsFlow net flow → IsClosed net.pairs e → IsTight net flow e → TightIsGreatest net flow e
