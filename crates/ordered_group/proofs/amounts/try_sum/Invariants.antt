use Rattle.std.proofs.Common.{◌≡◌, map}
use Rattle.ordered_group.specs.Sums.{total, amount_at, SumFits}
use Rattle.ordered_group.proofs.amounts.try_sum.Given as goal

abbrev pub invariant-loop-x : goal.invariant-loop-x
invariant-loop-x g l = record {
  so_far : g.G.OrderedGroup.parts_of l.sum ≡ total (amount_at (map g.G.OrderedGroup.parts_of l.amounts)) l.x-index;
  fits : SumFits (amount_at (map g.G.OrderedGroup.parts_of l.amounts)) l.x-index;
}
