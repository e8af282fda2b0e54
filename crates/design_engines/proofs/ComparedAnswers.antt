-- From the parts of the comparison to the engine's answer, where the readers tell their bytes.
use Rattle.std.proofs.Common.{◌≡◌, ℕ, Bool, List, sym, subst, Option, Result, Err, inl, inr, IfSome}
use Rattle.prec_file.specs.Rests.{RestsView}
use Rattle.check_engines.specs.declared.judgement.Judgement.{Judgement}
use Rattle.check_engines.specs.declared.judgement.Verdict.{Verdict}
use Rattle.engine_faults.specs.declared.engine_fault.EngineFault.{EngineFault}
use Rattle.engine_faults.specs.declared.engine_fault.EngineFault.TheVariants as engine
use Rattle.mine_inputs.specs.declared.mines.MineInputs.{MineInputs}
use Rattle.mine_inputs.specs.declared.worths.Worths.{Worths}
use Rattle.mine_inputs.specs.Prelude.{MineFails, ForTexts, MineTexts, DenoteMine, IsMineRead}
use Rattle.check_engines.specs.Judging.{factor_in}
use Rattle.check_engines.proofs.Answered.{keeps_self, fails}
use Rattle.mine_inputs.proofs.MineDevices.{always, under, for_texts}
use Rattle.design_engines.specs.declared.value_fault.DesignProblem.TheVariants as problem
use Rattle.design_engines.specs.declared.value_fault.ValueFault.{ValueFault}
use Rattle.design_engines.specs.declared.value_fault.ValueFault.TheVariants as value
use Rattle.design_engines.specs.Prelude.{IsDrawn, IsBeside, ComparisonFails, CompareAtFault, ComparesDesign}
use Rattle.design_engines.specs.Prelude.{ReadsDesign, DesignReadFails, DesignView}

-- ---- faults, over texts

-- nothing was written: so it is at any fault
at_fault : (texts : MineTexts) (d c : List ℕ) (w : Option (List ℕ)) (e : ValueFault) → CompareAtFault texts d c w w e
at_fault texts d c w (value.Engine engine.Device) = inl (keeps_self w)
at_fault texts d c w e = keeps_self w

-- the texts of the mine were not read
unread_at : (texts : MineTexts) (d c : List ℕ) (w : Option (List ℕ)) (e : EngineFault) → MineFails texts e
    → ComparesDesign texts d c w w (Err (value.Engine e))
unread_at texts d c w e h = ((fails texts c e h, inl h), at_fault texts d c w (value.Engine e))

-- the design was not read
undrawn : (texts : MineTexts) (n : ℕ) (d c : List ℕ) (w : Option (List ℕ)) (e : ValueFault) → DenoteMine texts n
    → DesignReadFails n d e → ComparesDesign texts d c w w (Err e)
undrawn texts n d c w (value.Design problem.InputTooLong) m h = ((n, m, h), keeps_self w)
undrawn texts n d c w (value.Design (problem.Fault q)) m h = ((n, m, h), keeps_self w)
undrawn texts n d c w (value.Engine engine.Memory) m h = ((tt, inl tt), keeps_self w)
undrawn texts n d c w (value.Engine engine.Device) m h = ((tt, inl tt), inl (keeps_self w))
undrawn texts n d c w e m h = absurd h

-- there is nothing to compare
unpaired : (texts : MineTexts) (d c : List ℕ) (w : Option (List ℕ)) (e : ValueFault) → IsDrawn texts d
    → ComparisonFails texts d c e → ComparesDesign texts d c w w (Err e)
unpaired texts d c w (value.Engine e) drawn h = ((h, inr drawn), at_fault texts d c w (value.Engine e))
unpaired texts d c w (value.Design problem.TooLarge) drawn h = (inl h, keeps_self w)
unpaired texts d c w (value.Design _) drawn h = absurd h

-- ---- the engine, where the readers tell their bytes

-- what is known of a design and a certificate for a mine that was read, at the factor that the certificate names
abbrev pub ReadBeside : Worths → RestsView → List Bool → (MineTexts → List ℕ → List ℕ → Type 0) → List ℕ → Type 0
ReadBeside worths rests marks Q c = (texts : MineTexts) (design : List ℕ)
    → IsMineRead texts (factor_in c) worths rests → ReadsDesign rests.blocks design marks → Q texts design c

module _ {D : Type 0} (inputs : MineInputs D) (remaining : D → Option (List ℕ)) (x y : Option (List ℕ)) where
  abbrev pub Answers : (MineTexts → List ℕ → List ℕ → Type 0) → Type 0
  Answers Q = IfSome x (λ d. IfSome y (λ c. ForTexts inputs remaining (factor_in c) (λ texts. Q texts d c)))

  pub unread : (w : Option (List ℕ)) (e : EngineFault)
      → ((k : ℕ) → ForTexts inputs remaining k (λ texts. MineFails texts e))
      → Answers (λ texts d c. ComparesDesign texts d c w w (Err (value.Engine e)))
  unread w e h = always x (λ d. IfSome y
      (λ c. ForTexts inputs remaining (factor_in c) (λ texts. ComparesDesign texts d c w w (Err (value.Engine e)))))
      (λ d.
      always y (λ c. ForTexts inputs remaining (factor_in c)
      (λ texts. ComparesDesign texts d c w w (Err (value.Engine e)))) (λ c.
      for_texts inputs remaining (factor_in c) (λ texts. MineFails texts e)
      (λ texts. ComparesDesign texts d c w w (Err (value.Engine e))) (h (factor_in c))
      (λ texts f. unread_at texts d c w e f)))

  module _ (worths : Worths) (rests : RestsView) (n : ℕ) (size : n ≡ rests.blocks)
      (h : (k : ℕ) → ForTexts inputs remaining k (λ texts. IsMineRead texts k worths rests)) where
    pub design_unread : (w : Option (List ℕ)) (e : ValueFault) → IfSome x (λ d. DesignReadFails n d e)
        → Answers (λ texts d c. ComparesDesign texts d c w w (Err e))
    design_unread w e f = under x (λ d. DesignReadFails n d e)
        (λ d. IfSome y (λ c. ForTexts inputs remaining (factor_in c) (λ texts. ComparesDesign texts d c w w (Err e))))
        f (λ d k.
        always y (λ c. ForTexts inputs remaining (factor_in c) (λ texts. ComparesDesign texts d c w w (Err e))) (λ c.
        for_texts inputs remaining (factor_in c) (λ texts. IsMineRead texts (factor_in c) worths rests)
        (λ texts. ComparesDesign texts d c w w (Err e)) (h (factor_in c)) (λ texts r.
        undrawn texts n d c w e (subst (DenoteMine texts) (sym size) r.0.mine) k)))

    module _ (marks : List Bool) (f : IfSome x (λ d. ReadsDesign n d marks)) where
      -- what follows from what is known of both
      both : (P Q : MineTexts → List ℕ → List ℕ → Type 0) → IfSome y (ReadBeside worths rests marks P)
          → ((texts : MineTexts) (d c : List ℕ) → IsDrawn texts d → P texts d c → Q texts d c) → Answers Q
      both P Q j g = under x (λ d. ReadsDesign n d marks)
          (λ d. IfSome y (λ c. ForTexts inputs remaining (factor_in c) (λ texts. Q texts d c))) f (λ d k.
          under y (ReadBeside worths rests marks P)
          (λ c. ForTexts inputs remaining (factor_in c) (λ texts. Q texts d c)) j (λ c a.
          for_texts inputs remaining (factor_in c) (λ texts. IsMineRead texts (factor_in c) worths rests)
          (λ texts. Q texts d c) (h (factor_in c)) (λ texts r.
          let drawn = subst (λ (m : ℕ). ReadsDesign m d marks) size k in
          g texts d c (record { blocks = rests.blocks; mine = r.0.mine; drawn = drawn.0 }) (a texts d r drawn))))

      pub not_paired : (w : Option (List ℕ)) (e : ValueFault)
          → IfSome y (ReadBeside worths rests marks (λ texts d c. ComparisonFails texts d c e))
          → Answers (λ texts d c. ComparesDesign texts d c w w (Err e))
      not_paired w e j = both (λ texts d c. ComparisonFails texts d c e)
          (λ texts d c. ComparesDesign texts d c w w (Err e)) j (λ texts d c drawn k. unpaired texts d c w e drawn k)

      pub paired : (v : DesignView) (judgement : Judgement) (old new : Option (List ℕ))
          (answer : Result Verdict ValueFault)
          → IfSome y (ReadBeside worths rests marks (λ texts d c. IsBeside texts d c v judgement))
          → ((texts : MineTexts) (d c : List ℕ) → IsBeside texts d c v judgement
          → ComparesDesign texts d c old new answer)
          → Answers (λ texts d c. ComparesDesign texts d c old new answer)
      paired v judgement old new answer j g = both (λ texts d c. IsBeside texts d c v judgement)
          (λ texts d c. ComparesDesign texts d c old new answer) j (λ texts d c drawn k. g texts d c k)
