-- A schedule of the whole mine beside a bound that a pit's blocks prove.
use Rattle.fixed_worth.proofs.Common.{◌≡◌, ℕ, List, subst, Option, Some, None, IfSome}
use Rattle.prec_file.specs.Rests.{RestsView}
use Rattle.check_engines.specs.Prelude.{factor_in}
use Rattle.mine_inputs.specs.declared.worths.Worths.{Worths}
use Rattle.mine_inputs.specs.Prelude.{IsMineRead, MineTexts, ways_of}
use Rattle.mine_inputs.proofs.MineDevices.{always, under}
use Rattle.periods_file.specs.Periods.{periods_view}
use Rattle.schedule_value.specs.Prelude.{JudgedView}
use Rattle.schedule_engines.specs.declared.plan_read.PlanRead.{PlanRead}
use Rattle.schedule_engines.specs.Prelude.{IsPlanRead, IsTreatedFor}
use Rattle.planned_mine.specs.declared.bound_inputs.BesideRead.{BesideRead}
use Rattle.bound_engines.specs.declared.bound_judge.BoundJudgement.{BoundJudgement}
use Rattle.bound_engines.specs.declared.part_judge.PartCase.{PartCase}
use Rattle.bound_engines.specs.Prelude.{IsPart, IsToldAt, IsToldIn}
use Rattle.gap_engines.specs.Prelude.{IsCompared}
use Rattle.gap_engines.proofs.GapsTold.{compared}
use Rattle.bound_engines.proofs.PitsTold.{Told_in, at_price, told_in_pit}

both_some : (o : Option (List ℕ)) (P Q : List ℕ → Type 0) → IfSome o P → IfSome o Q → IfSome o (λ c. P c × Q c)
both_some None P Q h k = tt
both_some (Some c) P Q h k = (h, k)

-- what was read beside the schedule
abbrev pub beside_of : PlanRead → BesideRead
beside_of read = record { periods = read.periods; uses = read.uses; waits = read.waits }

module _ (o nodes : Option (List ℕ)) (worths : Worths) (rests : RestsView) (read : PlanRead) where
  pub nothing_compared : IfSome o
      (λ k. IfSome nodes (λ c. (texts : MineTexts) (p u s : List ℕ) → IsMineRead texts (factor_in c) worths rests
      → IsPlanRead rests.blocks (ways_of texts) read p u s → Unit {0}))
  nothing_compared =
      let Q : List ℕ → Type 0 = λ c. (texts : MineTexts) (p u s : List ℕ)
      → IsMineRead texts (factor_in c) worths rests → IsPlanRead rests.blocks (ways_of texts) read p u s
      → Unit {0} in
      always o (λ k. IfSome nodes Q) (λ k. always nodes Q (λ c texts p u s mine plan. tt))

  pub compared_part : (x : PartCase) → x.worths ≡ worths → IsPart o worths rests (beside_of read) x.factor x.figured
      → (t : BoundJudgement) → IsToldIn x.figured t → IfSome nodes (λ c. IsToldAt x.worths x.factor (factor_in c))
      → (v : JudgedView) → ((texts : MineTexts) (p u s : List ℕ) → IsMineRead texts x.factor worths rests
      → IsPlanRead rests.blocks (ways_of texts) read p u s
      → IsTreatedFor texts p u s rests.blocks (periods_view read.periods) read.waits v)
      → IfSome o (λ k. IfSome nodes (λ c. (texts : MineTexts) (p u s : List ℕ)
      → IsMineRead texts (factor_in c) worths rests → IsPlanRead rests.blocks (ways_of texts) read p u s
      → IsCompared texts p u (Some k) s v t))
  compared_part x same part t over at v judged =
      let beside = beside_of read in
      let A : List ℕ → Type 0 = λ c. IsToldAt x.worths x.factor (factor_in c) in
      let T : List ℕ → List ℕ → Type 0 = Told_in o worths rests beside x same part t in
      let Q : List ℕ → List ℕ → Type 0 = λ k c. (texts : MineTexts) (p u s : List ℕ)
      → IsMineRead texts (factor_in c) worths rests → IsPlanRead rests.blocks (ways_of texts) read p u s
      → IsCompared texts p u (Some k) s v t in
      under o (λ k. IfSome nodes (T k)) (λ k. IfSome nodes (Q k))
      (told_in_pit o worths rests beside x same part nodes t over at) (λ k h.
      under nodes (λ c. T k c × A c) (Q k) (both_some nodes (T k) A h at) (λ c tells texts p u s mine plan.
      let agreed : IsToldAt worths x.factor (factor_in c) = subst (λ (w : Worths). IsToldAt w x.factor (factor_in c))
      same tells.1 in
      let here = at_price texts worths rests x.factor (factor_in c) agreed mine in
      compared texts p u s rests.blocks (periods_view read.periods) read.waits v (judged texts p u s here plan)
      (Some k) t (tells.0 texts p u mine plan.0 plan.1)))
