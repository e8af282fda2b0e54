-- The pit that a flow of any origin proves, and why it proves none.
use Rattle.std.specs.Prelude.{◌≡◌, ℕ, ℤ, List, length}
use Rattle.ordered_group.specs.Amount.{Amount}
use Rattle.closure_net.specs.Prelude.{NetView, FlowView, FlowFits, IsAscending, holds_of, IsGreatest, group_worth}
use Rattle.closure_net.specs.Prelude.{IsReached}
use Rattle.check_pit.specs.Checks.{IsOfNet, IsSound, PitFaultStands}
use Rattle.check_pit.specs.declared.pit_fault.PitFault.{PitFault}
use Rattle.solve_engines.specs.declared.certification.Uncertified.{Uncertified}
use Rattle.solve_engines.specs.declared.certification.Uncertified.TheVariants.{NoMemory, Refused}

-- The flow proves the pit, which is what the source reaches in it: no closed set of the net sums to more. It has so
-- many blocks, which are worth so many billionths; `set_worth` gives the worth of a sum of the net's amounts.
pub record IsSolution (set_worth : Amount → ℕ → ℕ → ℤ) (net : NetView) (flow : FlowView) (pit : List ℕ) (count : ℕ)
    (worth : ℤ) : Type 0 where
  pub sound : IsSound net flow pit
  pub reached : IsReached net flow (holds_of pit)
  pub ascending : IsAscending pit
  pub greatest : IsGreatest net (holds_of pit)
  pub count_is : count ≡ length pit
  pub worth_is : worth ≡ set_worth (group_worth net.worths (holds_of pit)) (length net.worths) count

-- The fault stands for the flow and a pit; where the flow has the net's lengths, the pit is what the source reaches in
-- it.
pub record IsRefusedFlow (net : NetView) (flow : FlowView) (fault : PitFault) : Type 0 where
  pub pit : List ℕ
  pub stands : PitFaultStands net flow pit fault
  pub reached : FlowFits net flow → IsReached net flow (holds_of pit)
  pub of_net : FlowFits net flow → IsOfNet net pit

-- why there is none
abbrev pub UncertifiedStands : NetView → FlowView → Uncertified → Type 0
UncertifiedStands net flow NoMemory = Unit {0}
UncertifiedStands net flow (Refused fault) = IsRefusedFlow net flow fault
