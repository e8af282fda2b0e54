use Rattle.fixed_worth.proofs.Common.{◌≡◌, nat_lt, length}
use Rattle.ordered_group.specs.Sets.{worth_in}
use Rattle.production_figures.specs.Figures.{value_by}
use Rattle.schedule_value.specs.Prelude.{IsWithin, period_by}
use Rattle.schedule_value.proofs.worth.npv_at.Given as goal

abbrev pub invariant-loop-b : goal.invariant-loop-b
invariant-loop-b l = record {
  is : l.sum ≡ worth_in (λ b. value_by l.figures b (period_by l.schedule b))
      (λ b. nat_lt (period_by l.schedule b) (length l.figures.weights)) l.b;
  bound : IsWithin l.b l.sum;
}
