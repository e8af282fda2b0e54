-- What a proved pit can be refused for.
use Rattle.std.specs.Prelude.{◌≡◌, ℕ, List}
use Rattle.closure_net.specs.Network.{NetView, FlowView}
use Rattle.check_pit.specs.Checks.{ProvesPit, FaultHolds}
use Rattle.check_pit.specs.declared.pit_fault.PitFault.{PitFault}
use Rattle.check_pit.specs.declared.pit_fault.PitFault.TheVariants.{TooLarge}

-- of a pit that a flow proves no fault holds but sums that don't fit, in whatever order faults are looked for
abbrev pub RefusedForSizeOnly : Type 0
RefusedForSizeOnly = (net : NetView) (flow : FlowView) (pit : List ℕ) (fault : PitFault) → ProvesPit net flow pit
    → FaultHolds net flow pit fault → fault ≡ TooLarge
