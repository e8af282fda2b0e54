use Rattle.fixed_worth.proofs.Common.{◌≡◌, pos, ◌*ℤ◌, length}
use Rattle.schedules.specs.Prelude.{sum_below}
use Rattle.production_figures.specs.Figures.{capacity_by}
use Rattle.expanded_mine.specs.Prelude.{price_by}
use Rattle.expanded_mine.proofs.bound.price_of_all.Given as goal

abbrev pub invariant-loop-r : goal.invariant-loop-r
invariant-loop-r l = l.sum ≡ sum_below
    (λ r. sum_below (λ t. capacity_by l.figures r t *ℤ pos (price_by l.figures l.prices r t))
    (length l.figures.weights)) l.r
