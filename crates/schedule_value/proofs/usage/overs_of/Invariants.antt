use Rattle.fixed_worth.proofs.Common.{◌≡◌, []}
use Rattle.production_figures.specs.Figures.{production_of}
use Rattle.schedule_value.specs.Prelude.{overs_in_rows, period_by}
use Rattle.schedule_value.proofs.usage.overs_of.Given as goal

abbrev pub invariant-loop-r : goal.invariant-loop-r
invariant-loop-r l = l.found.items ≡ overs_in_rows (production_of [] l.figures) (period_by l.schedule) l.r
