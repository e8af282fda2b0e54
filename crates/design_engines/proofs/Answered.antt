-- From the parts of the engine of `value` to its answer, where the readers tell their bytes.
use Rattle.std.proofs.Common.{◌≡◌, ℕ, ℤ, Bool, List, sym, ◌∙◌, subst, Option, Result, Err, inl, inr, IfSome}
use Rattle.prec_file.specs.Rests.{RestsView}
use Rattle.check_engines.specs.declared.judgement.Verdict.{Verdict}
use Rattle.engine_faults.specs.declared.engine_fault.EngineFault.{EngineFault}
use Rattle.engine_faults.specs.declared.engine_fault.EngineFault.TheVariants as engine
use Rattle.mine_inputs.specs.declared.mines.MineInputs.{MineInputs}
use Rattle.mine_inputs.specs.declared.worths.Worths.{Worths}
use Rattle.check_engines.specs.Checking.{LineFails}
use Rattle.mine_inputs.specs.Prelude.{MineFails, ForTexts, MineTexts, DenoteMine, AreRead, IsMineRead, nanos_at}
use Rattle.check_engines.proofs.Answered.{keeps_self}
use Rattle.mine_inputs.proofs.MinesRead.{read_as}
use Rattle.mine_inputs.proofs.MineDevices.{always, under, for_texts}
use Rattle.design_engines.specs.declared.value_fault.DesignProblem.TheVariants as problem
use Rattle.design_engines.specs.declared.value_fault.ValueFault.{ValueFault}
use Rattle.design_engines.specs.declared.value_fault.ValueFault.TheVariants as value
use Rattle.design_engines.specs.Prelude.{ReadsDesign, DesignReadFails, DesignView, IsValued, design_text, ValueAtFault}
use Rattle.design_engines.specs.Prelude.{Values}

-- ---- faults, over texts

-- nothing was written: so it is at any fault
at_fault : (texts : MineTexts) (d : List ℕ) (w : Option (List ℕ)) (e : ValueFault) → ValueAtFault texts d w w e
at_fault texts d w (value.Engine engine.Device) = inl (keeps_self w)
at_fault texts d w e = keeps_self w

-- the texts of the mine were not read
unread_at : (texts : MineTexts) (d : List ℕ) (w : Option (List ℕ)) (e : EngineFault) → MineFails texts e
    → Values texts d w w (Err (value.Engine e))
unread_at texts d w e h = (h, at_fault texts d w (value.Engine e))

-- the design was not read
undrawn : (texts : MineTexts) (n : ℕ) (d : List ℕ) (w : Option (List ℕ)) (e : ValueFault) → DenoteMine texts n
    → DesignReadFails n d e → Values texts d w w (Err e)
undrawn texts n d w (value.Design problem.InputTooLong) m h = ((n, m, h), keeps_self w)
undrawn texts n d w (value.Design (problem.Fault q)) m h = ((n, m, h), keeps_self w)
undrawn texts n d w (value.Engine engine.Memory) m h = (tt, keeps_self w)
undrawn texts n d w (value.Engine engine.Device) m h = (tt, inl (keeps_self w))
undrawn texts n d w e m h = absurd h

-- its lines could not be written
pub lines_failed : (texts : MineTexts) (d : List ℕ) (v : DesignView) (old new : Option (List ℕ)) (e : EngineFault)
    → IsValued texts d v → LineFails old new (design_text v) e → Values texts d old new (Err (value.Engine e))
lines_failed texts d v old new engine.Memory h k = (tt, k)
lines_failed texts d v old new engine.Device h k = (tt, inr (v, h, k))
lines_failed texts d v old new e h k = absurd k

-- ---- the engine, where the readers tell their bytes

module _ {D : Type 0} (inputs : MineInputs D) (remaining : D → Option (List ℕ)) (factor : ℕ) (x : Option (List ℕ)) where
  abbrev pub Answers : (List ℕ → MineTexts → Type 0) → Type 0
  Answers Q = IfSome x (λ d. ForTexts inputs remaining factor (λ texts. Q d texts))

  pub unread : (w : Option (List ℕ)) (e : EngineFault)
      → ((k : ℕ) → ForTexts inputs remaining k (λ texts. MineFails texts e))
      → Answers (λ d texts. Values texts d w w (Err (value.Engine e)))
  unread w e h = always x (λ d. ForTexts inputs remaining factor (λ texts. Values texts d w w (Err (value.Engine e))))
      (λ d.
      for_texts inputs remaining factor (λ texts. MineFails texts e)
      (λ texts. Values texts d w w (Err (value.Engine e))) (h factor) (λ texts f. unread_at texts d w e f))

  module _ (worths : Worths) (rests : RestsView) (n : ℕ) (size : n ≡ rests.blocks)
      (h : (k : ℕ) → ForTexts inputs remaining k (λ texts. IsMineRead texts k worths rests)) where
    pub design_unread : (w : Option (List ℕ)) (e : ValueFault) → IfSome x (λ d. DesignReadFails n d e)
        → Answers (λ d texts. Values texts d w w (Err e))
    design_unread w e f = under x (λ d. DesignReadFails n d e)
        (λ d. ForTexts inputs remaining factor (λ texts. Values texts d w w (Err e))) f (λ d k.
        for_texts inputs remaining factor (λ texts. IsMineRead texts factor worths rests)
        (λ texts. Values texts d w w (Err e)) (h factor) (λ texts r.
        undrawn texts n d w e (subst (DenoteMine texts) (sym size) r.0.mine) k))

    -- what holds of any texts of what was read holds of these
    pub value_answer : (nanos nanos' : List ℤ) (marks marks' : List Bool) (old new : Option (List ℕ))
        (result : Result Verdict ValueFault) → nanos ≡ nanos_at worths factor → nanos' ≡ nanos → marks' ≡ marks
        → IfSome x (λ d. ReadsDesign n d marks)
        → ((texts : MineTexts) (d : List ℕ) → AreRead texts nanos' rests → ReadsDesign rests.blocks d marks'
        → Values texts d old new result) → Answers (λ d texts. Values texts d old new result)
    value_answer nanos nanos' marks marks' old new result is lent lent' f values = under x
        (λ d. ReadsDesign n d marks) (λ d. ForTexts inputs remaining factor (λ texts. Values texts d old new result))
        f (λ d k.
        for_texts inputs remaining factor (λ texts. IsMineRead texts factor worths rests)
        (λ texts. Values texts d old new result) (h factor) (λ texts r.
        values texts d (read_as texts (nanos_at worths factor) nanos' rests (lent ∙ is) r.0)
        (subst (λ (ms : List Bool). ReadsDesign rests.blocks d ms) (sym lent')
        (subst (λ (k : ℕ). ReadsDesign k d marks) size k))))
