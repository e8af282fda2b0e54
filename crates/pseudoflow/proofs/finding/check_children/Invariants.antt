use Rattle.std.proofs.Common.{◌≡◌, ◌≤◌}
use Rattle.pseudoflow.proofs.finding.check_children.Given as goal

abbrev pub invariant-loop-child : goal.invariant-loop-child
invariant-loop-child g l = record {
  same : l.forest ≡ l.fn.forest;
  spent : l.budget.left ≤ l.fn.budget.left;
}

abbrev pub decreases-loop-child : goal.decreases-loop-child
decreases-loop-child g l = l.budget.left
