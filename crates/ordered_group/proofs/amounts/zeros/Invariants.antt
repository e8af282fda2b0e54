use Rattle.std.proofs.Common.{◌≡◌, map, replicate, vec_len}
use Rattle.std.specs.Vec.{vec_capacity}
use Rattle.ordered_group.specs.Amount.{zero_amount}
use Rattle.ordered_group.proofs.amounts.zeros.Given as goal

-- As many zeros as there were turns, and room for the others.
abbrev pub invariant-loop-k : goal.invariant-loop-k
invariant-loop-k g l = record {
  all : map g.G.OrderedGroup.parts_of l.amounts.items ≡ replicate l._k zero_amount;
  some : vec_len l.amounts ≡ l._k;
  room : vec_capacity l.amounts ≡ l.n;
}
