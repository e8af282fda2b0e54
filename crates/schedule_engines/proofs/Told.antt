-- From the parts of the engine of `schedule` to its answer.
use Rattle.std.proofs.Common.{◌≡◌, ◌∙◌, ℕ, Bool, List, refl, sym, subst, Option, Some, None, Result, Err, inl, inr}
use Rattle.prec_file.specs.Rests.{RestsView}
use Rattle.std.specs.Io.KnownBytes.{Keeps}
use Rattle.engine_faults.specs.declared.engine_fault.EngineFault.{EngineFault}
use Rattle.engine_faults.specs.declared.engine_fault.EngineFault.TheVariants as engine
use Rattle.mine_inputs.specs.declared.mines.MineInputs.{MineInputs}
use Rattle.mine_inputs.specs.declared.worths.Worths.{Worths}
use Rattle.mine_inputs.specs.Prelude.{MineFails, ForTexts, MineTexts, DenoteMine, IsMineRead, blocks_valued, ways_of}
use Rattle.mine_inputs.specs.Prelude.{ways_valued}
use Rattle.mine_inputs.proofs.MineDevices.{for_texts}
use Rattle.schedule_value.specs.Prelude.{JudgedView}
use Rattle.schedule_engines.specs.declared.plan_fault.PlanFault.{PlanFault}
use Rattle.schedule_engines.specs.declared.plan_fault.PlanFault.TheVariants as plan
use Rattle.schedule_engines.specs.Prelude.{IsPlanRead, IsTreated, LinesFail, NoJudgement, PlanReadFails, Writes}
use Rattle.schedule_engines.specs.Prelude.{WritesAtFault, schedule_text}
use Rattle.schedule_engines.specs.declared.plan_read.PlanRead.{PlanRead}
use Rattle.schedule_engines.proofs.TextsBeside.{ForThree, always_three, under_three}

-- ---- faults, over texts

keeps_self : (w : Option (List ℕ)) → Keeps w w
keeps_self None = tt
keeps_self (Some xs) = refl

-- nothing was written: so it is at any fault
at_fault : (texts : MineTexts) (periods uses text : List ℕ) (w : Option (List ℕ)) (e : PlanFault)
    → WritesAtFault texts periods uses text w w e
at_fault texts periods uses text w (plan.Engine engine.Device) = inl (keeps_self w)
at_fault texts periods uses text w e = keeps_self w

-- nothing was told of the schedule
pub unjudged : (texts : MineTexts) (periods uses text : List ℕ) (w : Option (List ℕ)) (e : PlanFault)
    → NoJudgement texts periods uses text e → Writes texts periods uses text w w (Err e)
unjudged texts periods uses text w e h = (inr (inr (inl h)), at_fault texts periods uses text w e)

-- its lines could not be written
pub lines_failed : (texts : MineTexts) (periods uses text : List ℕ) (v : JudgedView) (old new : Option (List ℕ))
    (e : EngineFault) → IsTreated texts periods uses text v → LinesFail old new (schedule_text v) e
    → Writes texts periods uses text old new (Err (plan.Engine e))
lines_failed texts periods uses text v old new engine.Memory h k = (inl tt, k)
lines_failed texts periods uses text v old new engine.Device h k = (inl tt, inr (v, h, k))
lines_failed texts periods uses text v old new e h k = absurd k

-- ---- the engine, where the readers tell their bytes

module _ {D : Type 0} (inputs : MineInputs D) (remaining : D → Option (List ℕ)) (factor : ℕ) (o q t : Option (List ℕ))
  where
    abbrev pub Answers : (List ℕ → List ℕ → List ℕ → MineTexts → Type 0) → Type 0
    Answers Q = ForThree o q t (λ p u s. ForTexts inputs remaining factor (λ texts. Q p u s texts))

    pub mine_unread : (w : Option (List ℕ)) (e : EngineFault)
        → ((k : ℕ) → ForTexts inputs remaining k (λ texts. MineFails texts e))
        → Answers (λ p u s texts. Writes texts p u s w w (Err (plan.Engine e)))
    mine_unread w e h = always_three o q t
        (λ p u s. ForTexts inputs remaining factor (λ texts. Writes texts p u s w w (Err (plan.Engine e)))) (λ p u s.
        for_texts inputs remaining factor (λ texts. MineFails texts e)
        (λ texts. Writes texts p u s w w (Err (plan.Engine e))) (h factor)
        (λ texts f. (inl f, at_fault texts p u s w (plan.Engine e))))

    module _ (worths : Worths) (rests : RestsView) (n ways : ℕ) (size : n ≡ rests.blocks)
        (many : ways ≡ ways_valued worths)
        (h : (k : ℕ) → ForTexts inputs remaining k (λ texts. IsMineRead texts k worths rests)) where
      pub plan_unread : (w : Option (List ℕ)) (e : PlanFault) → ForThree o q t (λ p u s. PlanReadFails n ways p u s e)
          → Answers (λ p u s texts. Writes texts p u s w w (Err e))
      plan_unread w e f = under_three o q t (λ p u s. PlanReadFails n ways p u s e)
          (λ p u s. ForTexts inputs remaining factor (λ texts. Writes texts p u s w w (Err e))) f (λ p u s k.
          for_texts inputs remaining factor (λ texts. IsMineRead texts factor worths rests)
          (λ texts. Writes texts p u s w w (Err e)) (h factor) (λ texts r. (
            inr (inl (
              n,
              subst (DenoteMine texts) (sym size) r.0.mine,
              subst (λ (i : ℕ). PlanReadFails n i p u s e)
                  (many ∙ r.2.count) k,
            )),
            at_fault texts p u s w e,
          )))

      -- there are as many worths as blocks
      pub wrong_length : (w : Option (List ℕ)) (e : PlanFault) → ¬ (blocks_valued worths ≡ n)
          → Answers (λ p u s texts. Writes texts p u s w w (Err e))
      wrong_length w e other = always_three o q t
          (λ p u s. ForTexts inputs remaining factor (λ texts. Writes texts p u s w w (Err e))) (λ p u s.
          for_texts inputs remaining factor (λ texts. IsMineRead texts factor worths rests)
          (λ texts. Writes texts p u s w w (Err e)) (h factor) (λ texts r. absurd (other (r.2.size ∙ sym size))))

      -- what holds of any texts of what was read holds of these
      pub schedule_answer : (read : PlanRead) (old new : Option (List ℕ)) (result : Result Bool PlanFault)
          → ForThree o q t (λ p u s. IsPlanRead n ways read p u s)
          → ((texts : MineTexts) (p u s : List ℕ) → IsMineRead texts factor worths rests
          → IsPlanRead rests.blocks (ways_of texts) read p u s → Writes texts p u s old new result)
          → Answers (λ p u s texts. Writes texts p u s old new result)
      schedule_answer read old new result f writes =
          under_three o q t (λ p u s. IsPlanRead n ways read p u s)
          (λ p u s. ForTexts inputs remaining factor (λ texts. Writes texts p u s old new result)) f (λ p u s k.
          for_texts inputs remaining factor (λ texts. IsMineRead texts factor worths rests)
          (λ texts. Writes texts p u s old new result) (h factor) (λ texts r.
          writes texts p u s r (subst (λ (i : ℕ). IsPlanRead rests.blocks i read p u s) (many ∙ r.2.count)
          (subst (λ (i : ℕ). IsPlanRead i ways read p u s) size k))))
