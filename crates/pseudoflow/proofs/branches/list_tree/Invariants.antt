use Rattle.std.proofs.Common.{◌≡◌, ◌<◌, length, IfSome}
use Rattle.pseudoflow.proofs.branches.list_tree.Given as goal

abbrev pub invariant-loop-next : goal.invariant-loop-next
invariant-loop-next g l = record {
  known : IfSome l.next (λ b. b < l.forest);
  places : length l.places ≡ length l.fn.places;
}

abbrev pub decreases-loop-next : goal.decreases-loop-next
decreases-loop-next g l = l.budget.left
