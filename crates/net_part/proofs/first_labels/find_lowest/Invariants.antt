use Rattle.std.proofs.Common.{◌≡◌, ◌≤◌}
use Rattle.net_part.proofs.first_labels.find_lowest.Given as goal

abbrev pub invariant-loop-b : goal.invariant-loop-b
invariant-loop-b l = record {
  same : l.labels ≡ l.fn.labels;
  spent : l.budget.left ≤ l.fn.budget.left;
}
