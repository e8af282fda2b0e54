use Rattle.std.proofs.Common.{◌≡◌, vec_len}
use Rattle.pseudoflow.proofs.solving.lifted_blocks.Given as goal

abbrev pub invariant-loop-k : goal.invariant-loop-k
invariant-loop-k l = record {
  made : vec_len l.pit ≡ l.n;
}
