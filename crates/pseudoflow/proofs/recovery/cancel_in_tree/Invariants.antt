use Rattle.std.proofs.Common.{◌≡◌, length}
use Rattle.pseudoflow.proofs.recovery.cancel_in_tree.Given as goal

abbrev pub invariant-loop-k : goal.invariant-loop-k
invariant-loop-k g l = record {
  same : l.draft ≡ l.fn.draft;
  amounts : length l.amounts ≡ length l.fn.amounts;
}
