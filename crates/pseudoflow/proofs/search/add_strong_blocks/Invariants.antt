use Rattle.std.proofs.Common.{◌≡◌}
use Rattle.pseudoflow.proofs.search.add_strong_blocks.Given as goal

abbrev pub invariant-loop-b : goal.invariant-loop-b
invariant-loop-b g l = record {
  forest : l.forest ≡ l.fn.forest;
}
