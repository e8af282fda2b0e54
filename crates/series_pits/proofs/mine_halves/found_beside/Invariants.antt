use Rattle.std.proofs.Common.{All}
use Rattle.series_pits.specs.Prelude.{IsProved, IsLeft}
use Rattle.series_pits.proofs.mine_halves.found_beside.Given as goal

abbrev pub invariant-loop : goal.invariant-loop
invariant-loop g l = All (IsProved l.mine.predecessors.pairs l.mine.prices) l.found.items
    × All (IsLeft l.mine.predecessors.pairs l.mine.prices l.mine.factors.items) l.parts.items
