use Rattle.std.proofs.Common.{◌≡◌, ◌<◌, ◌≤◌}
use Rattle.pseudoflow.proofs.forest.Forest.merge.Given as goal

abbrev pub invariant-loop-self : goal.invariant-loop-self
invariant-loop-self g l = record {
  same : l.self ≡ l.fn.self;
  block : l.block < l.fn.self;
  parent : l.parent < l.fn.self;
  spent : l.budget.left ≤ l.fn.budget.left;
}

abbrev pub decreases-loop-self : goal.decreases-loop-self
decreases-loop-self g l = l.budget.left
