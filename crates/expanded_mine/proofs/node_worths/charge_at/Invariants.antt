use Rattle.fixed_worth.proofs.Common.{◌≡◌, pos, ◌*ℤ◌}
use Rattle.schedules.specs.Prelude.{sum_below}
use Rattle.production_figures.specs.Figures.{uses_by}
use Rattle.expanded_mine.specs.Prelude.{price_by}
use Rattle.expanded_mine.proofs.node_worths.charge_at.Given as goal

abbrev pub invariant-loop-r : goal.invariant-loop-r
invariant-loop-r l = l.sum ≡ sum_below (λ r. uses_by l.figures r l.b *ℤ pos (price_by l.figures l.prices r l.t)) l.r
