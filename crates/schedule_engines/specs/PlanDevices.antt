-- The devices of periods, of what blocks use, and of a schedule: the texts that they tell, and the failures that they
-- count.
use Rattle.std.specs.Prelude.{ℕ, ◌+◌, ◌-◌, ◌^◌, ◌<◌, List, Option, IfSome, length}
use Rattle.periods_file.specs.Periods.{periods_view}
use Rattle.schedule_engines.specs.declared.schedule_inputs.ScheduleInputs.{ScheduleInputs}
use Rattle.schedule_engines.specs.declared.plan_read.PlanRead.{PlanRead}
use Rattle.schedule_engines.specs.PlanTexts.{ReadsEntries, ReadsPeriodsBy}
use Rattle.schedule_engines.specs.WayUses.{ReadsWayUses}

-- P holds of their texts, where all of them tell their bytes
abbrev pub ForPlan : {D : Type 0} → ScheduleInputs D → (D → Option (List ℕ)) → (List ℕ → List ℕ → List ℕ → Type 0)
    → Type 0
ForPlan beside remaining P = IfSome (remaining beside.periods)
    (λ p. IfSome (remaining beside.uses) (λ u. IfSome (remaining beside.schedule) (λ s. P p u s)))

-- each of them has counted fewer than 2^64 - 1 failures, so that one more can be counted
abbrev pub PlanCanCount : {D : Type 0} → ScheduleInputs D → (D → ℕ) → Type 0
PlanCanCount beside failed = (failed beside.periods < 2 ^ 64 - 1) × (failed beside.uses < 2 ^ 64 - 1)
    × (failed beside.schedule < 2 ^ 64 - 1)

-- the failures that they have counted together
abbrev pub plan_failures : {D : Type 0} → ScheduleInputs D → (D → ℕ) → ℕ
plan_failures beside failed = failed beside.periods + failed beside.uses + failed beside.schedule

-- what was read of the texts, for n blocks, where there are so many ways
abbrev pub IsPlanRead : (n ways : ℕ) → PlanRead → List ℕ → List ℕ → List ℕ → Type 0
IsPlanRead n ways r periods uses schedule = ReadsPeriodsBy ways periods (periods_view r.periods)
    × ReadsWayUses n ways (periods_view r.periods) uses r.uses.items r.waits
    × ReadsEntries n (length r.periods.weights.items) ways schedule r.entries.items
