use Rattle.std.proofs.Common.{◌≡◌, vec_len, length}
use Rattle.pseudoflow.proofs.branches.branches_of.Given as goal

abbrev pub invariant-loop-root : goal.invariant-loop-root
invariant-loop-root g l = record {
  places : vec_len l.places ≡ length l.blocks;
}
