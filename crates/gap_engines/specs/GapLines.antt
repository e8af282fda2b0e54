-- What the engine of `schedule` writes where a certificate is given.
use Rattle.std.specs.Prelude.{◌≡◌, ◌⊎◌, ℕ, ℤ, ◌-ℤ◌, Bool, true, false, cond, List, [], ◌∷◌, ◌++◌, codes, Option, Result}
use Rattle.std.specs.Prelude.{Ok, Err}
use Rattle.std.specs.Io.KnownBytes.{Appends, Keeps}
use Rattle.fixed_worth.specs.Prelude.{amount_text}
use Rattle.check_pit.specs.declared.pit_fault.PitFault.{PitFault}
use Rattle.check_engines.specs.declared.judgement.Judgement.TheVariants.{Refused}
use Rattle.check_engines.specs.declared.judgement.Verdict.{Verdict}
use Rattle.check_engines.specs.declared.judgement.Verdict.TheVariants.{Done, No}
use Rattle.check_engines.specs.Prelude.{judgement_line}
use Rattle.engine_faults.specs.declared.engine_fault.EngineFault.TheVariants as engine
use Rattle.mine_inputs.specs.Prelude.{MineTexts}
use Rattle.schedule_value.specs.Prelude.{JudgedView}
use Rattle.schedule_engines.specs.declared.plan_fault.PlanFault.TheVariants as plan
use Rattle.schedule_engines.specs.Prelude.{IsTreated, is_clear, schedule_text}
use Rattle.planned_mine.specs.declared.bound_fault.BoundFault.{BoundFault}
use Rattle.planned_mine.specs.declared.bound_fault.BoundFault.TheVariants as bound
use Rattle.bound_engines.specs.declared.bound_judge.BoundJudgement.{BoundJudgement}
use Rattle.bound_engines.specs.declared.bound_judge.BoundJudgement.TheVariants as told
use Rattle.bound_engines.specs.Prelude.{IsGiven, bound_line}
use Rattle.gap_engines.specs.Gaps.{IsBelow}

-- the line of a gap
abbrev pub gap_line : ℤ → List ℕ
gap_line g = codes "GAP " ++ (amount_text 15 g ++ 10 ∷ [])

-- how far a schedule is below a bound, where it is feasible; of another nothing is told
abbrev pub gap_text : JudgedView → ℤ → List ℕ
gap_text v bound = cond (is_clear v.broken v.early v.over) (gap_line (bound -ℤ v.npv)) []

-- the lines of a schedule, of the bound and of the gap; or the line of a certificate that is refused
abbrev pub compared_text : JudgedView → BoundJudgement → List ℕ
compared_text v (told.Bound bound) = schedule_text v ++ (bound_line bound ++ gap_text v bound)
compared_text v (told.Refused fault) = judgement_line (Refused fault)

-- how the engine ends with it
abbrev pub compared_verdict : JudgedView → BoundJudgement → Verdict
compared_verdict v (told.Bound bound) = cond (is_clear v.broken v.early v.over) Done No
compared_verdict v (told.Refused fault) = No

-- The schedule comes to this, the bound holds, and both were written; and the gap after them where the schedule is
-- feasible.
pub record WritesBelow (texts : MineTexts) (periods uses : List ℕ) (pit : Option (List ℕ)) (text : List ℕ)
    (feasible : Bool) (old new : Option (List ℕ)) : Type 0 where
  pub v : JudgedView
  pub bound : ℤ
  pub is : IsBelow texts periods uses pit text v bound
  pub clear : is_clear v.broken v.early v.over ≡ feasible
  pub written : Appends old new (schedule_text v ++ (bound_line bound ++ cond feasible (gap_line (bound -ℤ v.npv)) []))

-- the texts denote a schedule, and the certificate proves no bound: its line alone was written
abbrev pub WritesUnbounded : MineTexts → List ℕ → List ℕ → List ℕ → Option (List ℕ) → Option (List ℕ) → Type 0
WritesUnbounded texts periods uses text old new = (v : JudgedView) × IsTreated texts periods uses text v
    × (fault : PitFault) × Appends old new (judgement_line (Refused fault))

-- the certificate of a pit is refused: its line alone was written
abbrev pub WritesPitRefused : Option (List ℕ) → Option (List ℕ) → Option (List ℕ) → Type 0
WritesPitRefused pit old new = IsGiven pit × (fault : PitFault) × Appends old new (judgement_line (Refused fault))

-- The answer, and what was written with it. At a fault nothing is written, unless a device failed.
abbrev pub Compares : MineTexts → List ℕ → List ℕ → Option (List ℕ) → List ℕ → Option (List ℕ) → Option (List ℕ)
    → Result Verdict BoundFault → Type 0
Compares texts periods uses pit text old new (Ok Done) = WritesBelow texts periods uses pit text true old new
Compares texts periods uses pit text old new (Ok No) = WritesBelow texts periods uses pit text false old new
    ⊎ (WritesUnbounded texts periods uses text old new ⊎ WritesPitRefused pit old new)
Compares texts periods uses pit text old new (Err (bound.Plan (plan.Engine engine.Device))) = Unit {0}
Compares texts periods uses pit text old new (Err fault) = Keeps old new
