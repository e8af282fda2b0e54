use Rattle.schedule_engines.specs.Prelude.{AreListed}
use Rattle.planned_mine.proofs.way_figures.all_of.Given as goal

abbrev pub invariant-loop-b : goal.invariant-loop-b
invariant-loop-b l = AreListed l.b (λ b. b) l.blocks.items
