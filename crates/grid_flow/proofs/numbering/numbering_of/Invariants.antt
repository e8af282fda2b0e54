use Rattle.std.proofs.Common.{◌≡◌, ◌≤◌}
use Rattle.grid_flow.proofs.numbering.numbering_of.Given as goal

abbrev pub invariant-loop-b : goal.invariant-loop-b
invariant-loop-b g l = record {
  same : l.numbering ≡ l.n;
  spent : l.budget.left ≤ l.fn.budget.left;
}
