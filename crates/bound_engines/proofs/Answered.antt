-- From the parts of the engine of bounds to its answer, where the readers tell their bytes.
use Rattle.std.proofs.Common.{◌≡◌, ℕ, List, refl, sym, subst, Option, Some, None, Ok, Err, IfSome}
use Rattle.std.specs.Io.KnownBytes.{Appends, Keeps}
use Rattle.prec_file.specs.Rests.{RestsView}
use Rattle.check_engines.specs.declared.judgement.Verdict.{Verdict}
use Rattle.check_engines.specs.Prelude.{factor_in}
use Rattle.engine_faults.specs.declared.engine_fault.EngineFault.TheVariants as engine
use Rattle.mine_inputs.specs.declared.mines.MineInputs.{MineInputs}
use Rattle.mine_inputs.specs.declared.worths.Worths.{Worths}
use Rattle.mine_inputs.specs.Prelude.{ForTexts, IsMineRead, MineTexts, ways_of, ways_valued}
use Rattle.mine_inputs.proofs.MineDevices.{always, under}
use Rattle.periods_file.specs.Periods.{periods_view}
use Rattle.schedule_engines.specs.declared.plan_fault.PlanFault.TheVariants as plan
use Rattle.schedule_engines.specs.Prelude.{ReadsPeriodsBy, ReadsWayUses}
use Rattle.planned_mine.specs.declared.bound_fault.BoundFault.{BoundFault}
use Rattle.planned_mine.specs.declared.bound_fault.BoundFault.TheVariants as bound
use Rattle.planned_mine.specs.declared.bound_inputs.BoundInputs.{BoundInputs}
use Rattle.planned_mine.specs.declared.bound_inputs.BesideRead.{BesideRead}
use Rattle.bound_engines.specs.declared.bound_judge.BoundJudgement.{BoundJudgement}
use Rattle.bound_engines.specs.declared.bound_judge.BoundJudgement.TheVariants as told
use Rattle.bound_engines.specs.declared.certificates.Certificates.{Certificates}
use Rattle.planned_mine.specs.Prelude.{ForBeside, IsBesideRead}
use Rattle.bound_engines.specs.Prelude.{Bounds, ForCertificates, ForPit, IsToldOf, told_line, verdict_told}
use Rattle.planned_mine.proofs.TextsBeside.{ForAll, of_read, whatever}

pub keeps_self : (w : Option (List ℕ)) → Keeps w w
keeps_self None = tt
keeps_self (Some xs) = refl

-- nothing was written: so it is at any fault
nothing_written : (texts : MineTexts) (p u : List ℕ) (k w : Option (List ℕ)) (e : BoundFault)
    → Bounds texts p u k w w (Err e)
nothing_written texts p u k w (bound.Plan (plan.Engine engine.Device)) = tt
nothing_written texts p u k w e = keeps_self w

-- what is told was written
told_written : (texts : MineTexts) (p u : List ℕ) (k old new : Option (List ℕ)) (t : BoundJudgement)
    (verdict : Verdict) → verdict ≡ verdict_told t → IsToldOf texts p u k t → Appends old new (told_line t)
    → Bounds texts p u k old new (Ok verdict)
told_written texts p u k old new (told.Bound v) verdict e h a = subst
    (λ (x : Verdict). Bounds texts p u k old new (Ok x)) (sym e) (v, h, a)
told_written texts p u k old new (told.Refused fault) verdict e h a = subst
    (λ (x : Verdict). Bounds texts p u k old new (Ok x)) (sym e) (fault, a)

-- ---- certificates

pub always_pit : {C : Type 0} (pit : Option C) (remaining : C → Option (List ℕ)) (P : Option (List ℕ) → Type 0)
    → ((o : Option (List ℕ)) → P o) → ForPit pit remaining P
always_pit None remaining P f = f None
always_pit (Some device) remaining P f = always (remaining device) (λ c. P (Some c)) (λ c. f (Some c))

pub under_pit : {C : Type 0} (pit : Option C) (remaining : C → Option (List ℕ)) (P Q : Option (List ℕ) → Type 0)
    → ForPit pit remaining P → ((o : Option (List ℕ)) → P o → Q o) → ForPit pit remaining Q
under_pit None remaining P Q h f = f None h
under_pit (Some device) remaining P Q h f = under (remaining device) (λ c. P (Some c)) (λ c. Q (Some c)) h
    (λ c. f (Some c))

module _ {C : Type 0} (certificates : Certificates C) (remaining : C → Option (List ℕ)) where
  -- what holds of all certificates
  pub always_by : (P : Option (List ℕ) → List ℕ → Type 0) → ((o : Option (List ℕ)) (c : List ℕ) → P o c)
      → ForCertificates certificates remaining P
  unfolding always_pit
  always_by P f = always_pit certificates.pit remaining (λ o. IfSome (remaining certificates.nodes) (λ c. P o c))
      (λ o. always (remaining certificates.nodes) (λ c. P o c) (λ c. f o c))

  pub under_by : (P Q : Option (List ℕ) → List ℕ → Type 0) → ForCertificates certificates remaining P
      → ((o : Option (List ℕ)) (c : List ℕ) → P o c → Q o c) → ForCertificates certificates remaining Q
  unfolding under_pit
  under_by P Q h f = under_pit certificates.pit remaining (λ o. IfSome (remaining certificates.nodes) (λ c. P o c))
      (λ o. IfSome (remaining certificates.nodes) (λ c. Q o c)) h
      (λ o k. under (remaining certificates.nodes) (λ c. P o c) (λ c. Q o c) k (λ c. f o c))

module _ {D C : Type 0} (inputs : MineInputs D) (beside : BoundInputs D) (remaining : D → Option (List ℕ))
    (certificates : Certificates C) (left : C → Option (List ℕ)) where
  abbrev pub Answers : (MineTexts → List ℕ → List ℕ → Option (List ℕ) → Type 0) → Type 0
  Answers Q = ForCertificates certificates left
      (λ o c. ForAll inputs beside remaining (factor_in c) (λ texts p u. Q texts p u o))

  pub unanswered : (w : Option (List ℕ)) (e : BoundFault) → Answers (λ texts p u o. Bounds texts p u o w w (Err e))
  unanswered w e =
      always_by certificates left
      (λ o c. ForAll inputs beside remaining (factor_in c) (λ texts p u. Bounds texts p u o w w (Err e))) (λ o c.
      whatever inputs beside remaining (factor_in c) (λ texts p u. Bounds texts p u o w w (Err e))
      (λ texts p u. nothing_written texts p u o w e))

  module _ (worths : Worths) (rests : RestsView) (n ways : ℕ) (size : n ≡ rests.blocks)
      (many : ways ≡ ways_valued worths) (r : BesideRead)
      (h : (k : ℕ) → ForTexts inputs remaining k (λ texts. IsMineRead texts k worths rests))
      (b : ForBeside beside remaining (λ p u. IsBesideRead n ways r p u)) where
    abbrev Tells : BoundJudgement → Option (List ℕ) → List ℕ → Type 0
    Tells t o c = (texts : MineTexts) (p u : List ℕ) → IsMineRead texts (factor_in c) worths rests
        → ReadsPeriodsBy (ways_of texts) p (periods_view r.periods)
        → ReadsWayUses rests.blocks (ways_of texts) (periods_view r.periods) u r.uses.items r.waits
        → IsToldOf texts p u o t

    pub answered : (t : BoundJudgement)
        → ForCertificates certificates left (λ o c. (texts : MineTexts) (p u : List ℕ)
        → IsMineRead texts (factor_in c) worths rests → ReadsPeriodsBy (ways_of texts) p (periods_view r.periods)
        → ReadsWayUses rests.blocks (ways_of texts) (periods_view r.periods) u r.uses.items r.waits
        → IsToldOf texts p u o t)
        → (old new : Option (List ℕ)) (verdict : Verdict) → verdict ≡ verdict_told t → Appends old new (told_line t)
        → Answers (λ texts p u o. Bounds texts p u o old new (Ok verdict))
    answered t j old new verdict e a =
        under_by certificates left (Tells t)
        (λ o c. ForAll inputs beside remaining (factor_in c)
        (λ texts p u. Bounds texts p u o old new (Ok verdict))) j (λ o c tells.
        of_read inputs beside remaining (factor_in c) (λ texts p u. Bounds texts p u o old new (Ok verdict)) worths
        rests n ways size many r h b (λ texts p u m pr ur.
        told_written texts p u o old new t verdict e (tells texts p u m pr ur) a))
