-- What the flow of a run without a lock proves of the net that was handed in.
use Rattle.std.specs.Prelude.{ℕ}
use Rattle.closure_net.specs.Network.{NetView, FlowView, IsNet}
use Rattle.machine_law.specs.Quiet.{IsSolved}
use Rattle.word_runner.specs.Ends.{IsSolvedBy}

-- A run over the net with its negative worths cut leaves a flow that solves the net itself: no flow takes more from the
-- source, and what the source reaches in what it leaves is closed, tight, and a greatest closed set.
abbrev pub RunsAreTight : Type 0
RunsAreTight = (net : NetView) (workers limit : ℕ) (flow : FlowView) (steps : ℕ) → IsNet net
    → IsSolvedBy net workers limit flow steps → IsSolved net flow
