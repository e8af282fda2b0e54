use Rattle.std.proofs.Common.{◌≡◌}
use Rattle.closure_net.specs.Searches.{PassedPlaces, SendsAt, sender_at}
use Rattle.closure_net.proofs.source_side.spread_up.Given as goal

abbrev pub invariant-loop-k : goal.invariant-loop-k
invariant-loop-k g l = record {
  blocks : l.search.blocks ≡ l.fn.search.blocks;
  found : PassedPlaces (SendsAt l.rests.pairs l.flow.rest l.b) (sender_at l.rests.pairs l.b) l.fn.search.found
      l.search.found l.k-index;
}
