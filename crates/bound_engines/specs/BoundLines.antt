-- What the engine of bounds writes.
use Rattle.std.specs.Prelude.{ℤ, List, [], ◌∷◌, ◌++◌, ℕ, codes, Option, Result, Ok, Err}
use Rattle.std.specs.Io.KnownBytes.{Appends, Keeps}
use Rattle.fixed_worth.specs.Prelude.{amount_text}
use Rattle.check_pit.specs.declared.pit_fault.PitFault.{PitFault}
use Rattle.check_engines.specs.declared.judgement.Judgement.TheVariants.{Refused}
use Rattle.check_engines.specs.declared.judgement.Verdict.{Verdict}
use Rattle.check_engines.specs.declared.judgement.Verdict.TheVariants.{Done, No}
use Rattle.check_engines.specs.Prelude.{judgement_line}
use Rattle.engine_faults.specs.declared.engine_fault.EngineFault.TheVariants as engine
use Rattle.mine_inputs.specs.Prelude.{MineTexts}
use Rattle.schedule_engines.specs.declared.plan_fault.PlanFault.TheVariants as plan
use Rattle.planned_mine.specs.declared.bound_fault.BoundFault.{BoundFault}
use Rattle.planned_mine.specs.declared.bound_fault.BoundFault.TheVariants as bound
use Rattle.bound_engines.specs.declared.bound_judge.BoundJudgement.{BoundJudgement}
use Rattle.bound_engines.specs.declared.bound_judge.BoundJudgement.TheVariants as told
use Rattle.bound_engines.specs.Bounded.{IsBounded}

-- the line of a bound
abbrev pub bound_line : ℤ → List ℕ
bound_line v = codes "BOUND " ++ (amount_text 15 v ++ 10 ∷ [])

-- the line of what is told
abbrev pub told_line : BoundJudgement → List ℕ
told_line (told.Bound v) = bound_line v
told_line (told.Refused fault) = judgement_line (Refused fault)

-- how the engine ends with it
abbrev pub verdict_told : BoundJudgement → Verdict
verdict_told (told.Bound v) = Done
verdict_told (told.Refused fault) = No

-- The answer, and what was written with it: a bound of the texts, or why the certificate of
-- the pit or that of the nodes proves none. At a fault
-- nothing is written, unless a device failed.
abbrev pub Bounds : MineTexts → List ℕ → List ℕ → Option (List ℕ) → Option (List ℕ) → Option (List ℕ)
    → Result Verdict BoundFault → Type 0
Bounds texts periods uses pit old new (Ok Done) = (v : ℤ) × IsBounded texts periods uses pit v
    × Appends old new (bound_line v)
Bounds texts periods uses pit old new (Ok No) = (fault : PitFault) × Appends old new (judgement_line (Refused fault))
Bounds texts periods uses pit old new (Err (bound.Plan (plan.Engine engine.Device))) = Unit {0}
Bounds texts periods uses pit old new (Err fault) = Keeps old new
