use Rattle.std.proofs.Common.{◌≡◌}
use Rattle.closure_net.specs.Searches.{PassedPlaces, Always, above_at}
use Rattle.closure_net.proofs.source_side.spread_down.Given as goal

abbrev pub invariant-loop-p : goal.invariant-loop-p
invariant-loop-p l = record {
  blocks : l.search.blocks ≡ l.fn.search.blocks;
  found : PassedPlaces Always (above_at l.rests.pairs l.b) l.fn.search.found l.search.found l.p-index;
}
