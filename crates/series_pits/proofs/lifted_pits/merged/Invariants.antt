use Rattle.std.proofs.Common.{take}
use Rattle.closure_net.specs.Network.{holds_of}
use Rattle.series_pits.specs.Parting.{AreJoined}
use Rattle.series_pits.proofs.lifted_pits.merged.Given as goal

abbrev pub invariant-loop-b : goal.invariant-loop-b
invariant-loop-b l = AreJoined (holds_of (take l.b-index l.first)) l.second l.next l.found.items

abbrev pub invariant-loop-k : goal.invariant-loop-k
invariant-loop-k l = AreJoined (holds_of l.first) l.second l.k l.found.items
