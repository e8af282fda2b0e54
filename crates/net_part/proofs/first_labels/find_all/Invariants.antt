use Rattle.std.proofs.Common.{◌≡◌, ◌≤◌}
use Rattle.net_part.proofs.first_labels.find_all.Given as goal

abbrev pub invariant-loop-at : goal.invariant-loop-at
invariant-loop-at l = record {
  same : l.labels ≡ l.fn.labels;
  spent : l.budget.left ≤ l.fn.budget.left;
}
