use Rattle.std.proofs.Common.{◌≡◌, length, vec_len, vec_capacity}
use Rattle.grid_flow.proofs.growing.copied.Given as goal

abbrev pub invariant-loop-link : goal.invariant-loop-link
invariant-loop-link l = record {
  made : vec_len l.copies ≡ l.link-index;
  room : vec_capacity l.copies ≡ length l.links;
}
