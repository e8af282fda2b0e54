use Rattle.std.proofs.Common.{◌≡◌, ◌≤◌}
use Rattle.pseudoflow.proofs.lifting.raise_lowest.Given as goal

abbrev pub invariant-loop-root : goal.invariant-loop-root
invariant-loop-root g l = record {
  forest : l.forest ≡ l.fn.forest;
  labels : l.labels ≡ l.fn.labels;
  spent : l.budget.left ≤ l.fn.budget.left;
}

abbrev pub decreases-loop-root : goal.decreases-loop-root
decreases-loop-root g l = l.budget.left
