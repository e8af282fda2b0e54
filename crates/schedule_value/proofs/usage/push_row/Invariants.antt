use Rattle.fixed_worth.proofs.Common.{◌≡◌, ◌++◌, []}
use Rattle.production_figures.specs.Figures.{production_of}
use Rattle.schedule_value.specs.Prelude.{overs_in_row, period_by}
use Rattle.schedule_value.proofs.usage.push_row.Given as goal

abbrev pub invariant-loop-t : goal.invariant-loop-t
invariant-loop-t l = l.found.items ≡ l.initial.found.items ++ overs_in_row (production_of [] l.figures)
    (period_by l.schedule) l.r l.t
