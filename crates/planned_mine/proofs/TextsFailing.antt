-- From the faults of parts that are read beside a mine to those of all of them, where the devices tell their bytes.
use Rattle.std.proofs.Common.{◌≡◌, ◌∙◌, ℕ, List, subst, sym, Option, None, Result, Ok, Err, IfSome, IfErr, inl, inr}
use Rattle.prec_file.specs.Rests.{RestsView}
use Rattle.check_engines.specs.declared.judgement.Verdict.{Verdict}
use Rattle.engine_faults.specs.declared.engine_fault.EngineFault.{EngineFault}
use Rattle.mine_inputs.specs.declared.mines.MineInputs.{MineInputs}
use Rattle.mine_inputs.specs.declared.worths.Worths.{Worths}
use Rattle.mine_inputs.specs.Prelude.{DenoteMine, ForTexts, IsMineRead, MineFails, ways_of, ways_valued}
use Rattle.mine_inputs.proofs.MineDevices.{always, for_texts, under}
use Rattle.periods_file.specs.declared.keys.PeriodKey.TheVariants as key
use Rattle.periods_file.specs.declared.periods_fault.PeriodsFault.TheVariants as periods_fault
use Rattle.periods_file.specs.Periods.{PeriodsView}
use Rattle.schedule_engines.specs.declared.plan_fault.PeriodsProblem.TheVariants as period_problem
use Rattle.schedule_engines.specs.declared.plan_fault.PlanFault.{PlanFault}
use Rattle.schedule_engines.specs.declared.plan_fault.PlanFault.TheVariants as plan
use Rattle.schedule_engines.specs.Prelude.{PeriodsByFail, ReadsPeriodsBy, WayUsesFail}
use Rattle.planned_mine.specs.declared.bound_fault.BoundFault.{BoundFault}
use Rattle.planned_mine.specs.declared.bound_fault.BoundFault.TheVariants as bound
use Rattle.planned_mine.specs.declared.bound_inputs.BoundInputs.{BoundInputs}
use Rattle.planned_mine.specs.Prelude.{BesideFails, ForBeside, IsBeyondTexts, PricedPeriodsFail, StandsInTexts}
use Rattle.planned_mine.proofs.TextsBeside.{ForAll, whatever}

-- ---- the text of periods

pub periods_unread : (ways : ℕ) (o : Option (List ℕ)) (e : PlanFault) → IfSome o (λ text. PeriodsByFail ways text e)
    → IfSome o (λ text. PricedPeriodsFail ways text e)
periods_unread ways o e h = under o (λ text. PeriodsByFail ways text e) (λ text. PricedPeriodsFail ways text e) h
    (λ text f. inl f)

pub prices_missing : (ways : ℕ) (o : Option (List ℕ)) (said : PeriodsView) → said.multipliers ≡ None
    → IfSome o (λ text. ReadsPeriodsBy ways text said)
    → IfSome o (λ text. PricedPeriodsFail ways text
    (plan.Periods (period_problem.Fault (periods_fault.Missing key.Multipliers))))
prices_missing ways o said none h = under o (λ text. ReadsPeriodsBy ways text said)
    (λ text. PricedPeriodsFail ways text
    (plan.Periods (period_problem.Fault (periods_fault.Missing key.Multipliers)))) h (λ text r. inr (said, r, none))

-- ---- it and what blocks use

module _ (o q : Option (List ℕ)) (n ways : ℕ) where
  pub unpriced : (e : PlanFault) → IfSome o (λ p. PricedPeriodsFail ways p e)
      → IfSome o (λ p. IfSome q (λ u. BesideFails ways p u n e))
  unpriced e h = under o (λ p. PricedPeriodsFail ways p e) (λ p. IfSome q (λ u. BesideFails ways p u n e)) h
      (λ p f. always q (λ u. BesideFails ways p u n e) (λ u. inl f))

  pub uses_unread : (said : PeriodsView) → IfSome o (λ p. ReadsPeriodsBy ways p said) → (e : PlanFault)
      → IfSome q (λ u. WayUsesFail n ways said u e) → IfSome o (λ p. IfSome q (λ u. BesideFails ways p u n e))
  uses_unread said a e h = under o (λ p. ReadsPeriodsBy ways p said) (λ p. IfSome q (λ u. BesideFails ways p u n e)) a
      (λ p r.
      under q (λ u. WayUsesFail n ways said u e) (λ u. BesideFails ways p u n e) h (λ u f. inr (said, r, f)))

-- ---- an engine, where the readers tell their bytes

module _ {D : Type 0} (inputs : MineInputs D) (beside : BoundInputs D) (remaining : D → Option (List ℕ))
    (factor : ℕ) where
  abbrev pub Stands : BoundFault → Type 0
  Stands e = ForAll inputs beside remaining factor
      (λ texts p u. StandsInTexts texts (BesideFails (ways_of texts) p u) e)

  pub of_mine : (e : EngineFault) → ((k : ℕ) → ForTexts inputs remaining k (λ texts. MineFails texts e))
      → Stands (bound.Plan (plan.Engine e))
  of_mine e h =
      always (remaining beside.periods)
      (λ p. IfSome (remaining beside.uses)
      (λ u. ForTexts inputs remaining factor
      (λ texts. StandsInTexts texts (BesideFails (ways_of texts) p u) (bound.Plan (plan.Engine e))))) (λ p.
      always (remaining beside.uses)
      (λ u. ForTexts inputs remaining factor
      (λ texts. StandsInTexts texts (BesideFails (ways_of texts) p u) (bound.Plan (plan.Engine e)))) (λ u.
      for_texts inputs remaining factor (λ texts. MineFails texts e)
      (λ texts. StandsInTexts texts (BesideFails (ways_of texts) p u) (bound.Plan (plan.Engine e))) (h factor)
      (λ texts f. inr (inl f))))

  pub of_beside : (worths : Worths) (rests : RestsView) (n ways : ℕ) → n ≡ rests.blocks → ways ≡ ways_valued worths
      → ((k : ℕ) → ForTexts inputs remaining k (λ texts. IsMineRead texts k worths rests)) → (e : PlanFault)
      → ForBeside beside remaining (λ p u. BesideFails ways p u n e) → Stands (bound.Plan e)
  of_beside worths rests n ways size many h e b =
      under (remaining beside.periods) (λ p. IfSome (remaining beside.uses) (λ u. BesideFails ways p u n e))
      (λ p. IfSome (remaining beside.uses)
      (λ u. ForTexts inputs remaining factor
      (λ texts. StandsInTexts texts (BesideFails (ways_of texts) p u) (bound.Plan e)))) b (λ p q.
      under (remaining beside.uses) (λ u. BesideFails ways p u n e)
      (λ u. ForTexts inputs remaining factor
      (λ texts. StandsInTexts texts (BesideFails (ways_of texts) p u) (bound.Plan e))) q (λ u f.
      for_texts inputs remaining factor (λ texts. IsMineRead texts factor worths rests)
      (λ texts. StandsInTexts texts (BesideFails (ways_of texts) p u) (bound.Plan e)) (h factor) (λ texts r.
      inr (inr (
        n,
        subst (DenoteMine texts) (sym size) r.0.mine,
        subst (λ (i : ℕ). BesideFails i p u n e)
            (many ∙ r.2.count) f,
      )))))

  pub beyond : (e : BoundFault) → IsBeyondTexts e → Stands e
  beyond e h = whatever inputs beside remaining factor
      (λ texts p u. StandsInTexts texts (BesideFails (ways_of texts) p u) e) (λ texts p u. inl h)

  -- where what comes after the texts answers no fault of theirs
  pub answers : (answer : Result Verdict BoundFault) → IfErr answer IsBeyondTexts
      → ForAll inputs beside remaining factor
      (λ texts p u. IfErr answer (StandsInTexts texts (BesideFails (ways_of texts) p u)))
  answers (Ok verdict) h = whatever inputs beside remaining factor (λ texts p u. Unit {0}) (λ texts p u. tt)
  answers (Err e) h = beyond e h
