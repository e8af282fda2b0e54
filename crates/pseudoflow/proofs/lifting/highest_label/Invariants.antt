use Rattle.std.proofs.Common.{◌≡◌, ◌≤◌}
use Rattle.pseudoflow.proofs.lifting.highest_label.Given as goal

abbrev pub invariant-loop-below : goal.invariant-loop-below
invariant-loop-below g l = record {
  same : l.labels ≡ l.fn.labels;
  spent : l.budget.left ≤ l.fn.budget.left;
}

abbrev pub decreases-loop-below : goal.decreases-loop-below
decreases-loop-below g l = l.budget.left
