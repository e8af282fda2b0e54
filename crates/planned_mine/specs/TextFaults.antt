-- When an engine of bounds answers a fault of a text: it stands there, and none before it does.
use Rattle.std.specs.Prelude.{◌≡◌, ◌⊎◌, ℕ, List, None}
use Rattle.engine_faults.specs.declared.engine_fault.EngineFault.TheVariants as engine
use Rattle.mine_inputs.specs.Prelude.{DenoteMine, MineTexts}
use Rattle.periods_file.specs.declared.keys.PeriodKey.TheVariants as key
use Rattle.periods_file.specs.declared.periods_fault.PeriodsFault.TheVariants as periods_fault
use Rattle.periods_file.specs.Periods.{PeriodsView}
use Rattle.schedule_engines.specs.declared.plan_fault.PeriodsProblem.TheVariants as period_problem
use Rattle.schedule_engines.specs.declared.plan_fault.PlanFault.{PlanFault}
use Rattle.schedule_engines.specs.declared.plan_fault.PlanFault.TheVariants as plan
use Rattle.schedule_engines.specs.Prelude.{MineAtFault, PeriodsByFail, ReadsPeriodsBy, WayUsesFail}
use Rattle.planned_mine.specs.declared.bound_fault.BoundFault.{BoundFault}
use Rattle.planned_mine.specs.declared.bound_fault.BoundFault.TheVariants as bound

-- the text says of periods all but the prices of resources, where there are so many ways to treat a block
abbrev pub PricesMissing : ℕ → List ℕ → PlanFault → Type 0
PricesMissing ways text (plan.Periods (period_problem.Fault (periods_fault.Missing key.Multipliers))) =
    (said : PeriodsView) × ReadsPeriodsBy ways text said × (said.multipliers ≡ None)
PricesMissing ways text _ = ⊥

-- the text says nothing of periods, or no prices
abbrev pub PricedPeriodsFail : ℕ → List ℕ → PlanFault → Type 0
PricedPeriodsFail ways text e = PeriodsByFail ways text e ⊎ PricesMissing ways text e

-- Why the texts beside a mine of n blocks aren't read where there are so many ways: the fault is one of the periods;
-- or,
-- where these are read, one of what blocks use.
abbrev pub BesideFails : ℕ → List ℕ → List ℕ → ℕ → PlanFault → Type 0
BesideFails ways periods uses n e = PricedPeriodsFail ways periods e
    ⊎ ((said : PeriodsView) × ReadsPeriodsBy ways periods said × WayUsesFail n ways said uses e)

-- the fault is none of these texts: it is one of a certificate, of the nodes or of sums, or memory, a thread or a
-- device
abbrev pub IsBeyondTexts : BoundFault → Type 0
IsBeyondTexts (bound.Nodes problem) = Unit {0}
IsBeyondTexts (bound.Plan (plan.Periods period_problem.TooLarge)) = Unit {0}
IsBeyondTexts (bound.Plan (plan.Engine (engine.Certificate problem))) = Unit {0}
IsBeyondTexts (bound.Plan (plan.Engine (engine.Model fault))) = Unit {0}
IsBeyondTexts (bound.Plan (plan.Engine engine.Memory)) = Unit {0}
IsBeyondTexts (bound.Plan (plan.Engine engine.Thread)) = Unit {0}
IsBeyondTexts (bound.Plan (plan.Engine engine.Stranger)) = Unit {0}
IsBeyondTexts (bound.Plan (plan.Engine engine.Device)) = Unit {0}
IsBeyondTexts _ = ⊥

-- the fault is one of the texts of the mine; or, where they denote one of n blocks, one of the texts beside it
abbrev pub IsTextFault : MineTexts → (ℕ → PlanFault → Type 0) → BoundFault → Type 0
IsTextFault texts Beside (bound.Plan e) = MineAtFault texts e ⊎ ((n : ℕ) × DenoteMine texts n × Beside n e)
IsTextFault texts Beside (bound.Nodes problem) = ⊥

-- A fault of a text is there, and none before it. Of any other fault nothing is said.
abbrev pub StandsInTexts : MineTexts → (ℕ → PlanFault → Type 0) → BoundFault → Type 0
StandsInTexts texts Beside e = IsBeyondTexts e ⊎ IsTextFault texts Beside e
