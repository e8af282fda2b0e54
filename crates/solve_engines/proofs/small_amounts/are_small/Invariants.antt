use Rattle.std.proofs.Common.{ℕ, ◌<◌}
use Rattle.ordered_group.specs.Prelude.{amount_at}
use Rattle.solve_engines.specs.Small.{IsSmallAmount}
use Rattle.solve_engines.proofs.small_amounts.are_small.Given as goal

abbrev pub invariant-loop-arc : goal.invariant-loop-arc
invariant-loop-arc g l = record {
  small : (k : ℕ) → k < l.arc → IsSmallAmount (amount_at l.carried k);
}
