use Rattle.std.proofs.Common.{◌≡◌, ◌≤◌}
use Rattle.net_part.proofs.numbering.numbering_of.Given as goal

abbrev pub invariant-loop-b : goal.invariant-loop-b
invariant-loop-b l = record {
  same : l.numbering ≡ l.n;
  spent : l.budget.left ≤ l.fn.budget.left;
}
