use Rattle.std.proofs.Common.{◌≡◌, ◌<◌, ◌≤◌, IfSome}
use Rattle.pseudoflow.proofs.lifting.lift.Given as goal

abbrev pub invariant-loop-next : goal.invariant-loop-next
invariant-loop-next g l = record {
  known : IfSome l.next (λ b. b < l.forest);
  same : l.labels ≡ l.fn.labels;
  spent : l.budget.left ≤ l.fn.budget.left;
}

abbrev pub decreases-loop-next : goal.decreases-loop-next
decreases-loop-next g l = l.budget.left
