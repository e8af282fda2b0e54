use Rattle.std.proofs.Common.{All, ◌<◌}
use Rattle.solve_engines.proofs.placed_solver.pit_by.Given as goal

abbrev pub invariant-loop-b : goal.invariant-loop-b
invariant-loop-b l = record {
  known : All (λ b. b < l.n) l.blocks.items;
}
