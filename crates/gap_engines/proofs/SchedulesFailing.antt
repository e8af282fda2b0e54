-- From the faults of a schedule, and of what is read before it, to those of all of them, where the devices tell their
-- bytes.
use Rattle.std.proofs.Common.{◌≡◌, ◌∙◌, ℕ, List, length, subst, sym, Option, Result, Ok, Err, IfSome, IfErr, inl, inr}
use Rattle.prec_file.specs.Rests.{RestsView}
use Rattle.check_engines.specs.declared.judgement.Verdict.{Verdict}
use Rattle.engine_faults.specs.declared.engine_fault.EngineFault.{EngineFault}
use Rattle.engine_faults.specs.declared.engine_fault.EngineFault.TheVariants as engine
use Rattle.mine_inputs.specs.declared.mines.MineInputs.{MineInputs}
use Rattle.mine_inputs.specs.declared.worths.Worths.{Worths}
use Rattle.mine_inputs.specs.Prelude.{DenoteMine, ForTexts, IsMineRead, MineFails, ways_of, ways_valued}
use Rattle.mine_inputs.proofs.MineDevices.{all_texts, always, for_texts, under}
use Rattle.periods_file.specs.Periods.{PeriodsView}
use Rattle.schedule_engines.specs.declared.plan_fault.PeriodsProblem.TheVariants as period_problem
use Rattle.schedule_engines.specs.declared.plan_fault.PlanFault.{PlanFault}
use Rattle.schedule_engines.specs.declared.plan_fault.PlanFault.TheVariants as plan
use Rattle.schedule_engines.specs.Prelude.{EntriesFail, IsUnjudged, ReadsPeriodsBy, WayUsesFail}
use Rattle.schedule_engines.proofs.TextsBeside.{ForThree, always_three, under_three}
use Rattle.planned_mine.specs.declared.bound_fault.BoundFault.{BoundFault}
use Rattle.planned_mine.specs.declared.bound_fault.BoundFault.TheVariants as bound
use Rattle.planned_mine.specs.Prelude.{IsBeyondTexts, PricedPeriodsFail, StandsInTexts}
use Rattle.gap_engines.specs.Prelude.{ComparedFails}

-- a schedule that isn't judged is a fault of no text
pub unjudged_beyond : (e : PlanFault) → IsUnjudged e → IsBeyondTexts (bound.Plan e)
unjudged_beyond (plan.Engine engine.Memory) h = tt
unjudged_beyond (plan.Engine (engine.Model fault)) h = tt
unjudged_beyond (plan.Periods period_problem.TooLarge) h = tt
unjudged_beyond _ h = absurd h

module _ (o q t : Option (List ℕ)) (n ways : ℕ) where
  pub unpriced_three : (e : PlanFault) → IfSome o (λ p. PricedPeriodsFail ways p e)
      → ForThree o q t (λ p u s. ComparedFails ways p u s n e)
  unpriced_three e h = under o (λ p. PricedPeriodsFail ways p e)
      (λ p. IfSome q (λ u. IfSome t (λ s. ComparedFails ways p u s n e))) h (λ p f.
      always q (λ u. IfSome t (λ s. ComparedFails ways p u s n e))
      (λ u. always t (λ s. ComparedFails ways p u s n e) (λ s. inl f)))

  module _ (said : PeriodsView) (a : IfSome o (λ p. ReadsPeriodsBy ways p said)) where
    pub uses_unread_three : (e : PlanFault) → IfSome q (λ u. WayUsesFail n ways said u e)
        → ForThree o q t (λ p u s. ComparedFails ways p u s n e)
    uses_unread_three e h = under o (λ p. ReadsPeriodsBy ways p said)
        (λ p. IfSome q (λ u. IfSome t (λ s. ComparedFails ways p u s n e))) a (λ p r.
        under q (λ u. WayUsesFail n ways said u e) (λ u. IfSome t (λ s. ComparedFails ways p u s n e)) h (λ u f.
        always t (λ s. ComparedFails ways p u s n e) (λ s. inr (said, r, inl f))))

    pub schedule_unread : (e : PlanFault) (count : ℕ) → count ≡ length said.weights
        → IfSome t (λ s. EntriesFail n count ways s e) → ForThree o q t (λ p u s. ComparedFails ways p u s n e)
    schedule_unread e count is h = under o (λ p. ReadsPeriodsBy ways p said)
        (λ p. IfSome q (λ u. IfSome t (λ s. ComparedFails ways p u s n e))) a (λ p r.
        always q (λ u. IfSome t (λ s. ComparedFails ways p u s n e)) (λ u.
        under t (λ s. EntriesFail n count ways s e) (λ s. ComparedFails ways p u s n e) h
        (λ s f. inr (said, r, inr (subst (λ (k : ℕ). EntriesFail n k ways s e) is f)))))

-- ---- an engine, where the readers tell their bytes

module _ {D : Type 0} (inputs : MineInputs D) (remaining : D → Option (List ℕ)) (factor : ℕ) (x y z : Option (List ℕ))
  where
    abbrev pub StandsBeside : BoundFault → Type 0
    StandsBeside e = ForThree x y z
        (λ p u s. ForTexts inputs remaining factor (λ texts. StandsInTexts texts (ComparedFails (ways_of texts) p u s) e))

    pub of_mine_three : (e : EngineFault) → ((k : ℕ) → ForTexts inputs remaining k (λ texts. MineFails texts e))
        → StandsBeside (bound.Plan (plan.Engine e))
    of_mine_three e h = always_three x y z
        (λ p u s. ForTexts inputs remaining factor
        (λ texts. StandsInTexts texts (ComparedFails (ways_of texts) p u s) (bound.Plan (plan.Engine e)))) (λ p u s.
        for_texts inputs remaining factor (λ texts. MineFails texts e)
        (λ texts. StandsInTexts texts (ComparedFails (ways_of texts) p u s) (bound.Plan (plan.Engine e))) (h factor)
        (λ texts f. inr (inl f)))

    pub of_compared : (worths : Worths) (rests : RestsView) (n ways : ℕ) → n ≡ rests.blocks → ways ≡ ways_valued worths
        → ((k : ℕ) → ForTexts inputs remaining k (λ texts. IsMineRead texts k worths rests)) → (e : PlanFault)
        → ForThree x y z (λ p u s. ComparedFails ways p u s n e) → StandsBeside (bound.Plan e)
    of_compared worths rests n ways size many h e b = under_three x y z (λ p u s. ComparedFails ways p u s n e)
        (λ p u s. ForTexts inputs remaining factor
        (λ texts. StandsInTexts texts (ComparedFails (ways_of texts) p u s) (bound.Plan e))) b (λ p u s f.
        for_texts inputs remaining factor (λ texts. IsMineRead texts factor worths rests)
        (λ texts. StandsInTexts texts (ComparedFails (ways_of texts) p u s) (bound.Plan e)) (h factor) (λ texts r.
        inr (inr (
          n,
          subst (DenoteMine texts) (sym size) r.0.mine,
          subst (λ (i : ℕ). ComparedFails i p u s n e)
              (many ∙ r.2.count) f,
        ))))

    pub beyond_three : (e : BoundFault) → IsBeyondTexts e → StandsBeside e
    beyond_three e h = always_three x y z
        (λ p u s. ForTexts inputs remaining factor
        (λ texts. StandsInTexts texts (ComparedFails (ways_of texts) p u s) e)) (λ p u s.
        all_texts inputs remaining factor (λ texts. StandsInTexts texts (ComparedFails (ways_of texts) p u s) e)
        (λ texts. inl h))

    abbrev pub AnswersBeside : Result Verdict BoundFault → Type 0
    AnswersBeside answer = ForThree x y z
        (λ p u s. ForTexts inputs remaining factor
        (λ texts. IfErr answer (StandsInTexts texts (ComparedFails (ways_of texts) p u s))))

    pub answers_three : (answer : Result Verdict BoundFault) → IfErr answer IsBeyondTexts → AnswersBeside answer
    answers_three (Ok verdict) h = always_three x y z (λ p u s. ForTexts inputs remaining factor (λ texts. Unit {0}))
        (λ p u s. all_texts inputs remaining factor (λ texts. Unit {0}) (λ texts. tt))
    answers_three (Err e) h = beyond_three e h
