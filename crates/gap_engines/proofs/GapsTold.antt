-- A schedule below a bound, and from the parts of the engine that compares them to its answer.
use Rattle.std.proofs.Common.{◌≡◌, ℕ, ℤ, ◌≤ℤ◌, ◌-ℤ◌, Bool, true, false, cond, List, [], ◌++◌, length, refl, sym, ap}
use Rattle.std.proofs.Common.{◌∙◌, subst, Option, Result, Ok, Err, inl, inr}
use Rattle.core.specs.Result.{IsErrOf}
use Rattle.std.specs.Io.KnownBytes.{Appends}
use Rattle.prec_file.specs.Rests.{RestsView, has_pair}
use Rattle.check_engines.specs.declared.judgement.Verdict.{Verdict}
use Rattle.check_engines.specs.declared.judgement.Verdict.TheVariants.{Done, No}
use Rattle.check_pit.specs.declared.pit_fault.PitFault.{PitFault}
use Rattle.check_engines.specs.declared.judgement.Judgement.TheVariants.{Refused}
use Rattle.check_engines.specs.Prelude.{factor_in, judgement_line}
use Rattle.engine_faults.specs.declared.engine_fault.EngineFault.TheVariants as engine
use Rattle.mine_inputs.specs.declared.mines.MineInputs.{MineInputs}
use Rattle.mine_inputs.specs.declared.worths.Worths.{Worths}
use Rattle.mine_inputs.specs.Prelude.{ForTexts, IsMineRead, MineTexts, ways_of, ways_valued}
use Rattle.mine_inputs.proofs.MineDevices.{all_texts, for_texts}
use Rattle.periods_file.specs.Periods.{PeriodsView}
use Rattle.expanded_mine.specs.Prelude.{IsTreatedBound}
use Rattle.schedule_value.specs.Prelude.{JudgedView}
use Rattle.schedule_engines.specs.declared.plan_fault.PlanFault.TheVariants as plan
use Rattle.schedule_engines.specs.Prelude.{IsPlanRead, IsTreated, IsTreatedFor, entries_by, is_clear, schedule_by}
use Rattle.schedule_engines.specs.Prelude.{schedule_text, treated_of, way_by}
use Rattle.schedule_engines.proofs.TextsBeside.{ForThree, always_three, under_three}
use Rattle.planned_mine.specs.declared.bound_fault.BoundFault.{BoundFault}
use Rattle.planned_mine.specs.declared.bound_fault.BoundFault.TheVariants as bound
use Rattle.bound_engines.specs.declared.bound_judge.BoundJudgement.{BoundJudgement}
use Rattle.bound_engines.specs.declared.bound_judge.BoundJudgement.TheVariants as told
use Rattle.schedule_engines.specs.declared.plan_read.PlanRead.{PlanRead}
use Rattle.bound_engines.specs.declared.certificates.Certificates.{Certificates}
use Rattle.gap_engines.specs.declared.compared_within.ComparedBy.{ComparedBy}
use Rattle.bound_engines.specs.Prelude.{ForCertificates, IsBounded, IsGiven, IsToldFor, bound_line}
use Rattle.gap_engines.specs.Prelude.{Compares, IsBelow, IsCompared, IsComparedBy, compared_text, compared_verdict}
use Rattle.gap_engines.specs.Prelude.{gap_line}
use Rattle.bound_engines.proofs.Answered.{always_by, keeps_self, under_by}
use Rattle.gap_engines.proofs.KnownWays.{entries_known, way_known}

-- ---- a fault that is handed on

err_of : {A : Type 0} → BoundFault → Result A BoundFault → BoundFault
err_of e (Ok x) = e
err_of e (Err f) = f

pub same_fault : {A B : Type 0} (e f : BoundFault) → IsErrOf {T = A} {E = BoundFault} (Err e) f
    → IsErrOf {T = B} {E = BoundFault} (Err e) f
unfolding err_of
same_fault e f h = ap (λ (k : BoundFault). Err k) (ap (err_of e) h)

-- ---- a schedule below a bound

below_bound : (texts : MineTexts) (periods uses : List ℕ) (pit : Option (List ℕ)) (text : List ℕ) (v : JudgedView)
    (bound : ℤ) (s : IsTreated texts periods uses text v) (b : IsBounded texts periods uses pit bound)
    → b.denotes.count ≡ s.count → b.denotes.said ≡ s.said → b.denotes.waits ≡ s.waits
    → IsBelow texts periods uses pit text v bound
below_bound texts periods uses pit text v bound s b e f g =
    let way = way_by texts (entries_by texts s.said text) in
    let known = entries_known s.count (length s.said.weights) (ways_of texts) text s.schedule_read in
    let h : IsTreatedBound (treated_of texts s.count s.said uses) s.said.lag (has_pair s.waits.pairs) bound =
    subst (λ (n : ℕ). IsTreatedBound (treated_of texts n s.said uses) s.said.lag (has_pair s.waits.pairs) bound) e
    (subst (λ (q : PeriodsView). IsTreatedBound (treated_of texts b.denotes.count q uses) q.lag
    (has_pair s.waits.pairs) bound) f
    (subst (λ (w : RestsView). IsTreatedBound (treated_of texts b.denotes.count b.denotes.said uses)
    b.denotes.said.lag (has_pair w.pairs) bound) g b.holds)) in
    record {
      scheduled = s;
      bounded = b;
      same_blocks = e;
      same_periods = f;
      same_waits = g;
      below = λ clear. subst (λ (z : ℤ). z ≤ℤ bound) (sym s.judged.npv)
          (let k = s.judged.feasible.0 clear in h way (λ i l. way_known texts (entries_by texts s.said text) known i)
          (schedule_by texts s.said text) k.0 k.1.later);
    }

-- what a schedule of a mine that was read comes to, and what is told of all schedules of it
pub compared : (texts : MineTexts) (periods uses text : List ℕ) (n : ℕ) (said : PeriodsView) (lags : RestsView)
    (v : JudgedView) → IsTreatedFor texts periods uses text n said lags v
    → (pit : Option (List ℕ)) (t : BoundJudgement) → IsToldFor texts periods uses pit n said lags t
    → IsCompared texts periods uses pit text v t
compared texts periods uses text n said lags v s pit (told.Bound bound) h = below_bound texts periods uses pit text v
    bound s.0 h.0 (h.1 ∙ sym s.1) (h.2 ∙ sym s.2) (h.3 ∙ sym s.3)
compared texts periods uses text n said lags v s pit (told.Refused fault) h = s.0

-- ---- what is written

-- nothing was written: so it is at any fault
pub at_fault : (texts : MineTexts) (p u : List ℕ) (o : Option (List ℕ)) (s : List ℕ) (w : Option (List ℕ))
    (e : BoundFault) → Compares texts p u o s w w (Err e)
at_fault texts p u o s w (bound.Plan (plan.Engine engine.Device)) = tt
at_fault texts p u o s w e = keeps_self w

below_written : (texts : MineTexts) (p u : List ℕ) (o : Option (List ℕ)) (s : List ℕ) (old new : Option (List ℕ))
    (v : JudgedView) (bound : ℤ) (feasible : Bool) → is_clear v.broken v.early v.over ≡ feasible
    → IsBelow texts p u o s v bound
    → Appends old new (schedule_text v ++ (bound_line bound ++ cond feasible (gap_line (bound -ℤ v.npv)) []))
    → Compares texts p u o s old new (Ok (cond feasible Done No))
below_written texts p u o s old new v bound true e h a = record { v = v; bound = bound; is = h; clear = e; written = a }
below_written texts p u o s old new v bound false e h a = inl
    (record { v = v; bound = bound; is = h; clear = e; written = a })

-- what is told was written
pub compared_written : (texts : MineTexts) (p u : List ℕ) (o : Option (List ℕ)) (s : List ℕ)
    (old new : Option (List ℕ)) (v : JudgedView) (t : BoundJudgement) (verdict : Verdict)
    → verdict ≡ compared_verdict v t → IsCompared texts p u o s v t → Appends old new (compared_text v t)
    → Compares texts p u o s old new (Ok verdict)
compared_written texts p u o s old new v (told.Bound bound) verdict e h a = subst
    (λ (x : Verdict). Compares texts p u o s old new (Ok x)) (sym e)
    (below_written texts p u o s old new v bound (is_clear v.broken v.early v.over) refl h a)
compared_written texts p u o s old new v (told.Refused fault) verdict e h a = subst
    (λ (x : Verdict). Compares texts p u o s old new (Ok x)) (sym e) (inr (inl (v, h, fault, a)))

-- the line of a pit that is refused was written
pub no_pit_written : (texts : MineTexts) (p u : List ℕ) (o : Option (List ℕ)) (s : List ℕ) (old new : Option (List ℕ))
    → IsGiven o → (fault : PitFault) → Appends old new (judgement_line (Refused fault))
    → Compares texts p u o s old new (Ok No)
no_pit_written texts p u o s old new given fault a = inr (inr (given, fault, a))

-- ---- the engine, where the readers tell their bytes

module _ {D C : Type 0} (inputs : MineInputs D) (remaining : D → Option (List ℕ)) (certificates : Certificates C)
    (left : C → Option (List ℕ)) (x y z : Option (List ℕ)) where
  abbrev pub Answers : (MineTexts → List ℕ → List ℕ → Option (List ℕ) → List ℕ → Type 0) → Type 0
  Answers Q = ForCertificates certificates left
      (λ o c. ForThree x y z (λ p u s. ForTexts inputs remaining (factor_in c) (λ texts. Q texts p u o s)))

  pub uncompared : (w : Option (List ℕ)) (e : BoundFault)
      → Answers (λ texts p u o s. Compares texts p u o s w w (Err e))
  uncompared w e =
      always_by certificates left
      (λ o c. ForThree x y z (λ p u s. ForTexts inputs remaining (factor_in c)
      (λ texts. Compares texts p u o s w w (Err e)))) (λ o c.
      always_three x y z (λ p u s. ForTexts inputs remaining (factor_in c)
      (λ texts. Compares texts p u o s w w (Err e))) (λ p u s.
      all_texts inputs remaining (factor_in c) (λ texts. Compares texts p u o s w w (Err e))
      (λ texts. at_fault texts p u o s w e)))

  module _ (worths : Worths) (rests : RestsView) (n ways : ℕ) (size : n ≡ rests.blocks)
      (many : ways ≡ ways_valued worths) (r : PlanRead)
      (h : (k : ℕ) → ForTexts inputs remaining k (λ texts. IsMineRead texts k worths rests))
      (b : ForThree x y z (λ p u s. IsPlanRead n ways r p u s)) where
    abbrev pub Tells : ComparedBy → Option (List ℕ) → List ℕ → Type 0
    Tells t o c = (texts : MineTexts) (p u s : List ℕ) → IsMineRead texts (factor_in c) worths rests
        → IsPlanRead rests.blocks (ways_of texts) r p u s → IsComparedBy texts p u o s t

    pub compared_answer : (t : ComparedBy) → ForCertificates certificates left (Tells t)
        → (old new : Option (List ℕ)) (result : Result Verdict BoundFault)
        → ((texts : MineTexts) (p u : List ℕ) (o : Option (List ℕ)) (s : List ℕ) → IsComparedBy texts p u o s t
        → Compares texts p u o s old new result) → Answers (λ texts p u o s. Compares texts p u o s old new result)
    compared_answer t j old new result writes =
        under_by certificates left (Tells t)
        (λ o c. ForThree x y z (λ p u s. ForTexts inputs remaining (factor_in c)
        (λ texts. Compares texts p u o s old new result))) j (λ o c tells.
        under_three x y z (λ p u s. IsPlanRead n ways r p u s)
        (λ p u s. ForTexts inputs remaining (factor_in c) (λ texts. Compares texts p u o s old new result)) b
        (λ p u s k.
        for_texts inputs remaining (factor_in c) (λ texts. IsMineRead texts (factor_in c) worths rests)
        (λ texts. Compares texts p u o s old new result) (h (factor_in c)) (λ texts m.
        writes texts p u o s (tells texts p u s m
        (subst (λ (i : ℕ). IsPlanRead rests.blocks i r p u s) (many ∙ m.2.count)
        (subst (λ (i : ℕ). IsPlanRead i ways r p u s) size k))))))
