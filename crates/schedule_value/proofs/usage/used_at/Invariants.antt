use Rattle.fixed_worth.proofs.Common.{◌≡◌, ◌*◌, pos, ◌≤ℤ◌}
use Rattle.ordered_group.specs.Sets.{worth_in}
use Rattle.schedules.specs.Prelude.{dug_in}
use Rattle.production_figures.specs.Figures.{uses_by}
use Rattle.schedule_value.specs.Prelude.{period_by}
use Rattle.schedule_value.proofs.usage.used_at.Given as goal

abbrev pub invariant-loop-b : goal.invariant-loop-b
invariant-loop-b l = record {
  is : l.sum ≡ worth_in (uses_by l.figures l.r) (dug_in (period_by l.schedule) l.t) l.b;
  some : pos 0 ≤ℤ l.sum;
  most : l.sum ≤ℤ pos (l.b * 18446744073709551616);
}
