-- The devices of periods and of what blocks use: the texts that they tell, and the failures that they count.
use Rattle.std.specs.Prelude.{ℕ, ◌+◌, ◌-◌, ◌^◌, ◌<◌, List, Option, IfSome}
use Rattle.periods_file.specs.Periods.{periods_view}
use Rattle.schedule_engines.specs.Prelude.{ReadsPeriodsBy, ReadsWayUses}
use Rattle.planned_mine.specs.declared.bound_inputs.BoundInputs.{BoundInputs}
use Rattle.planned_mine.specs.declared.bound_inputs.BesideRead.{BesideRead}

-- P holds of the text of periods and of that of what blocks use, where both devices tell their bytes
abbrev pub ForBeside : {D : Type 0} → BoundInputs D → (D → Option (List ℕ)) → (List ℕ → List ℕ → Type 0) → Type 0
ForBeside beside remaining P = IfSome (remaining beside.periods) (λ p. IfSome (remaining beside.uses) (λ u. P p u))

-- each of them has counted fewer than 2^64 - 1 failures, so that one more can be counted
abbrev pub BesideCanCount : {D : Type 0} → BoundInputs D → (D → ℕ) → Type 0
BesideCanCount beside failed = (failed beside.periods < 2 ^ 64 - 1) × (failed beside.uses < 2 ^ 64 - 1)

-- the failures that they have counted together
abbrev pub beside_failures : {D : Type 0} → BoundInputs D → (D → ℕ) → ℕ
beside_failures beside failed = failed beside.periods + failed beside.uses

-- what was read of the texts, for n blocks, where there are so many ways to treat one
abbrev pub IsBesideRead : (n ways : ℕ) → BesideRead → List ℕ → List ℕ → Type 0
IsBesideRead n ways r periods uses = ReadsPeriodsBy ways periods (periods_view r.periods)
    × ReadsWayUses n ways (periods_view r.periods) uses r.uses.items r.waits
