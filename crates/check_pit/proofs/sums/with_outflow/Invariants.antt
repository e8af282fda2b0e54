use Rattle.std.proofs.Common.{◌≡◌, length}
use Rattle.ordered_group.specs.Prelude.{plus, amount_at}
use Rattle.prec_file.specs.Prelude.{from_at, numbers}
use Rattle.ordered_group.proofs.Numbers.{over}
use Rattle.check_pit.proofs.Over.{ListFits}
use Rattle.check_pit.proofs.sums.with_outflow.Given as goal

abbrev pub invariant-loop-i : goal.invariant-loop-i
invariant-loop-i g l = record {
  so_far : g.G.OrderedGroup.parts_of l.sum ≡ plus (g.G.OrderedGroup.parts_of l.fn.start)
      (over (amount_at l.carried) (numbers (from_at l.rests.pairs) l.b (length l.rests.pairs)) l.i);
  fits : ListFits (g.G.OrderedGroup.parts_of l.fn.start) (amount_at l.carried)
      (numbers (from_at l.rests.pairs) l.b (length l.rests.pairs)) l.i;
}
