use Rattle.std.proofs.Common.{ℕ, ◌<◌}
use Rattle.ordered_group.specs.Prelude.{amount_at}
use Rattle.solve_engines.specs.Small.{IsSmallWorth}
use Rattle.solve_engines.proofs.small_amounts.has_small_worths.Given as goal

abbrev pub invariant-loop-b : goal.invariant-loop-b
invariant-loop-b g l = record {
  small : (k : ℕ) → k < l.b → IsSmallWorth (amount_at l.net.worths k);
}
