use Rattle.fixed_worth.proofs.Common.{◌≡◌, length, vec_len, vec_capacity}
use Rattle.net_part.proofs.amounts.amounts_of.Given as goal

abbrev pub invariant-loop-block : goal.invariant-loop-block
invariant-loop-block g l = record {
  made : vec_len l.amounts ≡ l.block-index;
  room : vec_capacity l.amounts ≡ length l.blocks;
}
