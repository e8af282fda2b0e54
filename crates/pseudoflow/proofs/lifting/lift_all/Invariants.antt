use Rattle.std.proofs.Common.{◌≡◌, ◌≤◌}
use Rattle.pseudoflow.proofs.lifting.lift_all.Given as goal

abbrev pub invariant-loop-root : goal.invariant-loop-root
invariant-loop-root g l = record {
  same : l.labels ≡ l.fn.labels;
  spent : l.budget.left ≤ l.fn.budget.left;
}

abbrev pub decreases-loop-root : goal.decreases-loop-root
decreases-loop-root g l = l.budget.left
