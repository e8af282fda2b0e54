use Rattle.std.proofs.Common.{◌≡◌, ℕ, ◌<◌}
use Rattle.ordered_group.specs.Prelude.{FitsPair, total}
use Rattle.closure_net.specs.Flows.{residual_at}
use Rattle.check_pit.specs.Fits.{ResidualFits}
use Rattle.check_pit.proofs.sums.residual_of_source.Given as goal

abbrev pub invariant-loop-b : goal.invariant-loop-b
invariant-loop-b g l = record {
  so_far : g.G.OrderedGroup.parts_of l.sum ≡ total (residual_at l.fn.net.worths l.fn.flow.source) l.b;
  now : FitsPair (g.G.OrderedGroup.parts_of l.sum);
  fits : (k : ℕ) → k < l.b → ResidualFits l.fn.net.worths l.fn.flow.source k;
}
