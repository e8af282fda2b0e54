-- From the parts that are read beside a mine to all of them, where the devices tell their bytes.
use Rattle.std.proofs.Common.{◌≡◌, ℕ, List, length, subst, Option, IfSome, inl, inr}
use Rattle.mine_inputs.proofs.MineDevices.{always, under}
use Rattle.prec_file.specs.Rests.{RestsView}
use Rattle.periods_file.specs.Periods.{PeriodsView}
use Rattle.schedule_engines.specs.declared.plan_fault.PlanFault.{PlanFault}
use Rattle.schedule_file.specs.declared.entry.Entry.{Entry}
use Rattle.schedule_engines.specs.Prelude.{EntriesFail, PeriodsByFail, PlanReadFails, ReadsEntries, ReadsPeriodsBy}
use Rattle.schedule_engines.specs.Prelude.{ReadsWayUses, WayUsesFail}

module _ (o q t : Option (List ℕ)) where
  abbrev pub ForThree : (List ℕ → List ℕ → List ℕ → Type 0) → Type 0
  ForThree P = IfSome o (λ p. IfSome q (λ u. IfSome t (λ s. P p u s)))

  pub always_three : (P : List ℕ → List ℕ → List ℕ → Type 0) → ((p u s : List ℕ) → P p u s) → ForThree P
  always_three P f = always o (λ p. IfSome q (λ u. IfSome t (λ s. P p u s)))
      (λ p. always q (λ u. IfSome t (λ s. P p u s)) (λ u. always t (λ s. P p u s) (λ s. f p u s)))

  pub under_three : (P Q : List ℕ → List ℕ → List ℕ → Type 0) → ForThree P → ((p u s : List ℕ) → P p u s → Q p u s)
      → ForThree Q
  under_three P Q h f = under o (λ p. IfSome q (λ u. IfSome t (λ s. P p u s)))
      (λ p. IfSome q (λ u. IfSome t (λ s. Q p u s))) h (λ p a.
      under q (λ u. IfSome t (λ s. P p u s)) (λ u. IfSome t (λ s. Q p u s)) a
      (λ u b. under t (λ s. P p u s) (λ s. Q p u s) b (λ s c. f p u s c)))

  module _ (n ways : ℕ) where
    pub periods_failed : (e : PlanFault) → IfSome o (λ p. PeriodsByFail ways p e)
        → ForThree (λ p u s. PlanReadFails n ways p u s e)
    periods_failed e h = under o (λ p. PeriodsByFail ways p e)
        (λ p. IfSome q (λ u. IfSome t (λ s. PlanReadFails n ways p u s e))) h (λ p f.
        always q (λ u. IfSome t (λ s. PlanReadFails n ways p u s e))
        (λ u. always t (λ s. PlanReadFails n ways p u s e) (λ s. inl f)))

    module _ (said : PeriodsView) (a : IfSome o (λ p. ReadsPeriodsBy ways p said)) where
      pub uses_failed : (e : PlanFault) → IfSome q (λ u. WayUsesFail n ways said u e)
          → ForThree (λ p u s. PlanReadFails n ways p u s e)
      uses_failed e h = under o (λ p. ReadsPeriodsBy ways p said)
          (λ p. IfSome q (λ u. IfSome t (λ s. PlanReadFails n ways p u s e))) a (λ p r.
          under q (λ u. WayUsesFail n ways said u e) (λ u. IfSome t (λ s. PlanReadFails n ways p u s e)) h (λ u f.
          always t (λ s. PlanReadFails n ways p u s e) (λ s. inr (said, r, inl f))))

      pub schedule_failed : (e : PlanFault) (count : ℕ) → count ≡ length said.weights
          → IfSome t (λ s. EntriesFail n count ways s e) → ForThree (λ p u s. PlanReadFails n ways p u s e)
      schedule_failed e count is h = under o (λ p. ReadsPeriodsBy ways p said)
          (λ p. IfSome q (λ u. IfSome t (λ s. PlanReadFails n ways p u s e))) a (λ p r.
          always q (λ u. IfSome t (λ s. PlanReadFails n ways p u s e)) (λ u.
          under t (λ s. EntriesFail n count ways s e) (λ s. PlanReadFails n ways p u s e) h
          (λ s f. inr (said, r, inr (subst (λ (k : ℕ). EntriesFail n k ways s e) is f)))))

      pub all_read : (used : List ℕ) (listed : List Entry) (lags : RestsView) (count : ℕ)
          → count ≡ length said.weights → IfSome q (λ u. ReadsWayUses n ways said u used lags)
          → IfSome t (λ s. ReadsEntries n count ways s listed)
          → ForThree (λ p u s. ReadsPeriodsBy ways p said × ReadsWayUses n ways said u used lags
          × ReadsEntries n (length said.weights) ways s listed)
      all_read used listed lags count same b c =
          let P : List ℕ → List ℕ → List ℕ → Type 0 = λ p u s. ReadsPeriodsBy ways p said
          × ReadsWayUses n ways said u used lags × ReadsEntries n (length said.weights) ways s listed in
          under o (λ p. ReadsPeriodsBy ways p said) (λ p. IfSome q (λ u. IfSome t (λ s. P p u s))) a (λ p r.
          under q (λ u. ReadsWayUses n ways said u used lags) (λ u. IfSome t (λ s. P p u s)) b (λ u v.
          under t (λ s. ReadsEntries n count ways s listed) (λ s. P p u s) c
          (λ s w. (r, v, subst (λ (k : ℕ). ReadsEntries n k ways s listed) same w))))
