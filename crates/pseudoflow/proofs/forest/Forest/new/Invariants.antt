use Rattle.fixed_worth.proofs.Common.{◌≡◌, length, vec_len, vec_capacity}
use Rattle.pseudoflow.proofs.forest.Forest.new.Given as goal

abbrev pub invariant-loop-k : goal.invariant-loop-k
invariant-loop-k g l = record {
  made : vec_len l.nodes ≡ l.k;
  room : vec_capacity l.nodes ≡ length l.worths;
}
