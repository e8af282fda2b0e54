use Rattle.std.proofs.Common.{◌≡◌, map}
use Rattle.ordered_group.specs.Prelude.{positive, total, amount_at, SumFits}
use Rattle.closure_net.proofs.worths.positives_fit.Given as goal

abbrev pub invariant-loop-w : goal.invariant-loop-w
invariant-loop-w g l = record {
  so_far : g.G.OrderedGroup.parts_of l.sum ≡ total
      (λ b. positive (amount_at (map g.G.OrderedGroup.parts_of l.worths) b)) l.w-index;
  fits : SumFits (λ b. positive (amount_at (map g.G.OrderedGroup.parts_of l.worths) b)) l.w-index;
}
