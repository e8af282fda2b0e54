use Rattle.std.proofs.Common.{◌≡◌}
use Rattle.ordered_group.specs.Prelude.{plus, amount_at}
use Rattle.ordered_group.proofs.Numbers.{over}
use Rattle.check_pit.proofs.Over.{ListFits}
use Rattle.check_pit.proofs.sums.with_inflow.Given as goal

abbrev pub invariant-loop-k : goal.invariant-loop-k
invariant-loop-k g l = record {
  so_far : g.G.OrderedGroup.parts_of l.sum ≡ plus (g.G.OrderedGroup.parts_of l.fn.start)
      (over (amount_at l.carried) l.numbers l.k-index);
  fits : ListFits (g.G.OrderedGroup.parts_of l.fn.start) (amount_at l.carried) l.numbers l.k-index;
}
