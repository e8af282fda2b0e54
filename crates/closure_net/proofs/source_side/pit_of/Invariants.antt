use Rattle.std.proofs.Common.{◌≡◌, ◌-◌, length}
use Rattle.closure_net.proofs.Reach.{Searched}
use Rattle.closure_net.proofs.source_side.pit_of.Given as goal

abbrev pub invariant-loop-head : goal.invariant-loop-head
invariant-loop-head g l = record {
  blocks : l.search.blocks ≡ length l.net.worths;
  searched : Searched l.net l.flow l.search.found l.head;
}

abbrev pub decreases-loop-head : goal.decreases-loop-head
decreases-loop-head g l = length l.net.worths - l.head
