use Rattle.std.proofs.Common.{◌≡◌, ◌≤◌}
use Rattle.net_part.proofs.numbering.number_with_above.Given as goal

abbrev pub invariant-loop-stand : goal.invariant-loop-stand
invariant-loop-stand l = record {
  same : l.numbering ≡ l.fn.numbering;
  spent : l.budget.left ≤ l.fn.budget.left;
}

abbrev pub decreases-loop-stand : goal.decreases-loop-stand
decreases-loop-stand l = l.budget.left
