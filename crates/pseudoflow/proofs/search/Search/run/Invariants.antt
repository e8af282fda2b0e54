use Rattle.std.proofs.Common.{◌≡◌, ◌≤◌}
use Rattle.pseudoflow.proofs.search.Search.run.Given as goal

abbrev pub invariant-loop-root : goal.invariant-loop-root
invariant-loop-root g l = record {
  same : l.self ≡ l.fn.self;
  spent : l.budget.left ≤ l.fn.budget.left;
}

abbrev pub decreases-loop-root : goal.decreases-loop-root
decreases-loop-root g l = l.budget.left
