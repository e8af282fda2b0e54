-- From the parts of an engine over the factors of settings to its answer, where the readers tell their bytes.
use Rattle.fixed_worth.proofs.Common.{◌≡◌, ℕ, List, Option, Result, Ok, Err, inl, inr, IfSome, IfOk, IfErr, sym, subst}
use Rattle.fixed_worth.proofs.Common.{Appends}
use Rattle.closure_net.specs.declared.net.NetFault.{NetFault}
use Rattle.engine_faults.specs.declared.engine_fault.EngineFault.{EngineFault}
use Rattle.engine_faults.specs.declared.engine_fault.EngineFault.TheVariants as engine
use Rattle.check_engines.specs.declared.judgement.Verdict.{Verdict}
use Rattle.mine_inputs.specs.Mines.{PrecedenceBy}
use Rattle.check_engines.proofs.Answered.{keeps_self}
use Rattle.mine_inputs.proofs.PricedAnswers.{under3}
use Rattle.shell_engines.specs.Answering.{FailsBy, IsCutShort, WritesBothAtFault, Ends}

-- nothing was written
unwritten : (Answers : Verdict → List ℕ → List ℕ → Type 0) (v w : Option (List ℕ)) (e : EngineFault)
    → WritesBothAtFault Answers v v w w e
unwritten Answers v w engine.Device = inl (keeps_self v, keeps_self w)
unwritten Answers v w e = (keeps_self v, keeps_self w)

-- a fault of the reading is one of the engine: it names no thread and no board
unread : (Unread : EngineFault → Type 0) (Denoted : Type 0) (NoNet : NetFault → Type 0)
    → ((q : NetFault) → Unread (engine.Model q) → NoNet q) → (Unread engine.Thread → Denoted)
    → (Unread engine.Stranger → Denoted)
    → (e : EngineFault) → Unread e → FailsBy Unread Denoted NoNet e
unread Unread Denoted NoNet none thread stranger (engine.Model q) h = none q h
unread Unread Denoted NoNet none thread stranger engine.Thread h = thread h
unread Unread Denoted NoNet none thread stranger engine.Stranger h = stranger h
unread Unread Denoted NoNet none thread stranger e h = h

module _ (o q : Option (List ℕ)) (r : Option PrecedenceBy) (Answers : List ℕ → List ℕ → PrecedenceBy → Verdict
    → List ℕ → List ℕ → Type 0) where
  -- the texts were not read
  pub texts_unread : (Unread : List ℕ → List ℕ → PrecedenceBy → EngineFault → Type 0)
      (Denoted : List ℕ → List ℕ → PrecedenceBy → Type 0) (NoNet : List ℕ → List ℕ → PrecedenceBy → NetFault → Type 0)
      → ((s b : List ℕ) (p : PrecedenceBy) (k : NetFault) → Unread s b p (engine.Model k) → NoNet s b p k)
      → ((s b : List ℕ) (p : PrecedenceBy) → Unread s b p engine.Thread → Denoted s b p)
      → ((s b : List ℕ) (p : PrecedenceBy) → Unread s b p engine.Stranger → Denoted s b p)
      → (v w : Option (List ℕ)) (e : EngineFault) → IfSome o (λ s. IfSome q (λ b. IfSome r (λ p. Unread s b p e)))
      → IfSome o (λ s. IfSome q
      (λ b. IfSome r (λ p. Ends (Answers s b p) (FailsBy (Unread s b p) (Denoted s b p) (NoNet s b p)) v v w w
      (Err e))))
  texts_unread Unread Denoted NoNet none thread stranger v w e h = under3 o q r (λ s b p. Unread s b p e)
      (λ s b p. Ends (Answers s b p) (FailsBy (Unread s b p) (Denoted s b p) (NoNet s b p)) v v w w (Err e)) h
      (λ s b p f. (
        unread (Unread s b p) (Denoted s b p) (NoNet s b p) (none s b p) (thread s b p) (stranger s b p) e
            f,
        unwritten (Answers s b p) v w e,
      ))

  module _ (Fails : List ℕ → List ℕ → PrecedenceBy → EngineFault → Type 0) (Read : List ℕ → List ℕ → PrecedenceBy
      → Type 0) (h : IfSome o (λ s. IfSome q (λ b. IfSome r (λ p. Read s b p)))) where
    -- there is no answer
    pub unanswered : (v w : Option (List ℕ)) (e : EngineFault)
        → ((s b : List ℕ) (p : PrecedenceBy) → Read s b p → Fails s b p e)
        → IfSome o (λ s. IfSome q (λ b. IfSome r (λ p. Ends (Answers s b p) (Fails s b p) v v w w (Err e))))
    unanswered v w e fails = under3 o q r Read (λ s b p. Ends (Answers s b p) (Fails s b p) v v w w (Err e)) h
        (λ s b p read. (fails s b p read, unwritten (Answers s b p) v w e))

    module _ (before after old new : Option (List ℕ)) (verdict : Verdict) (table text : List ℕ)
        (answers : (s b : List ℕ) (p : PrecedenceBy) → Read s b p → Answers s b p verdict table text)
        (fails : (s b : List ℕ) (p : PrecedenceBy) → Fails s b p engine.Device) where
      abbrev Ended : Result Verdict EngineFault → Type 0
      Ended answer = IfSome o (λ s. IfSome q
          (λ b. IfSome r (λ p. Ends (Answers s b p) (Fails s b p) before after old new answer)))

      -- the table and the answer were written
      answered : Appends before after table → Appends old new text → Ended (Ok verdict)
      answered first second = under3 o q r Read
          (λ s b p. Ends (Answers s b p) (Fails s b p) before after old new (Ok verdict)) h
          (λ s b p read. (table, text, answers s b p read, first, second))

      -- a device failed in writing them
      cut_short : IsCutShort table text before after old new → Ended (Err engine.Device)
      cut_short cut = under3 o q r Read
          (λ s b p. Ends (Answers s b p) (Fails s b p) before after old new (Err engine.Device)) h
          (λ s b p read. (fails s b p, inr (verdict, table, text, answers s b p read, cut)))

      -- how writing them ends
      pub sent : (answer : Result Verdict EngineFault)
          → IfOk answer (λ v. (v ≡ verdict) × Appends before after table × Appends old new text)
          → IfErr answer (λ e. (e ≡ engine.Device) × IsCutShort table text before after old new) → Ended answer
      sent (Ok v) all cut = subst (λ (x : Verdict). Ended (Ok x)) (sym all.0) (answered all.1 all.2)
      sent (Err e) all cut = subst (λ (f : EngineFault). Ended (Err f)) (sym cut.0) (cut_short cut.1)
