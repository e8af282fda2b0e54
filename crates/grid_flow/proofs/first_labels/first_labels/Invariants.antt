use Rattle.std.proofs.Common.{◌≡◌}
use Rattle.grid_flow.proofs.first_labels.first_labels.Given as goal

abbrev pub invariant-loop-number : goal.invariant-loop-number
invariant-loop-number g l = record {
  same : l.labels ≡ l.above;
}
