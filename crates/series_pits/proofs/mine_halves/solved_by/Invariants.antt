use Rattle.series_pits.specs.Parting.{IsSearchLevel}
use Rattle.series_pits.proofs.mine_halves.solved_by.Given as goal

abbrev pub invariant-loop : goal.invariant-loop
invariant-loop g l = IsSearchLevel l.mine.predecessors.pairs l.mine.prices l.mine.factors.items l.level
