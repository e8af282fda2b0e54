use Rattle.std.proofs.Common.{All, IfOk, length}
use Rattle.series_pits.specs.Parting.{IsSearchLevel}
use Rattle.series_pits.proofs.mine_halves.level_of.Given as goal

abbrev pub invariant-loop-answer : goal.invariant-loop-answer
invariant-loop-answer g l = All
    (λ answer. IfOk answer (IsSearchLevel l.fn.mine.predecessors.pairs l.fn.mine.prices l.fn.mine.factors.items))
    l.answers.items × IsSearchLevel l.fn.mine.predecessors.pairs l.fn.mine.prices l.fn.mine.factors.items l.all

abbrev pub decreases-loop-answer : goal.decreases-loop-answer
decreases-loop-answer g l = length l.answers.items
