use Rattle.std.proofs.Common.{◌≡◌}
use Rattle.closure_net.specs.Prelude.{HasSourceResidual, PassedPlaces}
use Rattle.closure_net.proofs.source_side.begin.Given as goal

abbrev pub invariant-loop-b : goal.invariant-loop-b
invariant-loop-b g l = record {
  blocks : l.search.blocks ≡ l.fn.search.blocks;
  found : PassedPlaces (HasSourceResidual l.net.worths l.flow.source) (λ b. b) l.fn.search.found l.search.found l.b;
}
