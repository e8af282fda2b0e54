use Rattle.std.proofs.Common.{◌≡◌, ◌≤◌}
use Rattle.net_part.proofs.first_labels.lift_positive_blocks.Given as goal

abbrev pub invariant-loop-b : goal.invariant-loop-b
invariant-loop-b g l = record {
  same : l.labels ≡ l.fn.labels;
  spent : l.budget.left ≤ l.fn.budget.left;
}
