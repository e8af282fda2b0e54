use Rattle.std.proofs.Common.{◌≡◌, length, vec_len, vec_capacity}
use Rattle.grid_flow.proofs.growing.worths_of.Given as goal

abbrev pub invariant-loop-block : goal.invariant-loop-block
invariant-loop-block l = record {
  made : vec_len l.worths ≡ l.block-index;
  room : vec_capacity l.worths ≡ length l.blocks;
}
