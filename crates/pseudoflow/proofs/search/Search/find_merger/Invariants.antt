use Rattle.std.proofs.Common.{◌≡◌, ◌<◌, ◌≤◌, IfSome}
use Rattle.pseudoflow.proofs.search.Search.find_merger.Given as goal

abbrev pub invariant-loop-budget : goal.invariant-loop-budget
invariant-loop-budget g l = record {
  same : l.self ≡ l.fn.self;
  at : l.at < l.fn.self;
  found : IfSome l.found (λ arc. (arc.strong < l.fn.self) × (arc.weak < l.fn.self));
  spent : l.budget.left ≤ l.fn.budget.left;
}

abbrev pub decreases-loop-budget : goal.decreases-loop-budget
decreases-loop-budget g l = l.budget.left
