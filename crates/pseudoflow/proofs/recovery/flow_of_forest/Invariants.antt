use Rattle.std.proofs.Common.{◌≡◌}
use Rattle.pseudoflow.proofs.recovery.flow_of_forest.Given as goal

abbrev pub invariant-loop-place : goal.invariant-loop-place
invariant-loop-place g l = record {
  same : l.draft ≡ l.net;
}
