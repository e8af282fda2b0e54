use Rattle.std.proofs.Common.{◌≡◌, length, vec_len}
use Rattle.pseudoflow.proofs.recovery.put_sums.Given as goal

abbrev pub invariant-loop-branch : goal.invariant-loop-branch
invariant-loop-branch g l = record {
  made : vec_len l.sums ≡ l.branch-index;
}

abbrev pub invariant-loop-k : goal.invariant-loop-k
invariant-loop-k g l = record {
  made : vec_len l.sums ≡ length l.tree;
}
