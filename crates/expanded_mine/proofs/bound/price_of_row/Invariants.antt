use Rattle.fixed_worth.proofs.Common.{◌≡◌, pos, ◌*ℤ◌}
use Rattle.schedules.specs.Prelude.{sum_below}
use Rattle.production_figures.specs.Figures.{capacity_by}
use Rattle.expanded_mine.specs.Prelude.{price_by}
use Rattle.expanded_mine.proofs.bound.price_of_row.Given as goal

abbrev pub invariant-loop-t : goal.invariant-loop-t
invariant-loop-t l = l.sum ≡ sum_below (λ t. capacity_by l.figures l.r t *ℤ pos (price_by l.figures l.prices l.r t)) l.t
