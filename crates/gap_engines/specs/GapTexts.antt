-- Why the texts of periods, of what blocks use, and of a schedule aren't read where a bound is asked for beside it.
use Rattle.std.specs.Prelude.{◌⊎◌, ℕ, List}
use Rattle.periods_file.specs.Periods.{PeriodsView}
use Rattle.schedule_engines.specs.Prelude.{LaterFailsBy, ReadsPeriodsBy}
use Rattle.schedule_engines.specs.declared.plan_fault.PlanFault.{PlanFault}
use Rattle.planned_mine.specs.Prelude.{PricedPeriodsFail}

-- Why they aren't read for a mine of n blocks, where there are so many ways to treat one: the fault is one of the
-- periods;
-- or, where these are read, one of what comes after them.
abbrev pub ComparedFails : ℕ → List ℕ → List ℕ → List ℕ → ℕ → PlanFault → Type 0
ComparedFails ways periods uses text n e = PricedPeriodsFail ways periods e
    ⊎ ((said : PeriodsView) × ReadsPeriodsBy ways periods said × LaterFailsBy n ways uses text said e)
