use Rattle.std.proofs.Common.{◌<◌, ◌≤◌}
use Rattle.pseudoflow.proofs.forest.Forest.next_beyond.Given as goal

abbrev pub invariant-loop-parent : goal.invariant-loop-parent
invariant-loop-parent g l = record {
  known : l.at < l.self;
  spent : l.budget.left ≤ l.fn.budget.left;
}

abbrev pub decreases-loop-parent : goal.decreases-loop-parent
decreases-loop-parent g l = l.budget.left
