-- From the parts of a check to its answer, where the readers tell their bytes.
use Rattle.fixed_worth.proofs.Common.{◌≡◌, ℕ, List, refl, sym, subst, Option, Some, None, Result, Ok, Err, inl, inr}
use Rattle.fixed_worth.proofs.Common.{IfSome, Appends, Keeps}
use Rattle.prec_file.specs.Rests.{RestsView}
use Rattle.check_engines.specs.declared.judgement.Judgement.{Judgement}
use Rattle.check_engines.specs.declared.judgement.Judgement.TheVariants.{Accepted, Refused}
use Rattle.check_engines.specs.declared.judgement.Verdict.{Verdict}
use Rattle.engine_faults.specs.declared.engine_fault.EngineFault.{EngineFault}
use Rattle.engine_faults.specs.declared.engine_fault.EngineFault.TheVariants as engine
use Rattle.mine_inputs.specs.declared.mines.MineInputs.{MineInputs}
use Rattle.mine_inputs.specs.declared.worths.Worths.{Worths}
use Rattle.check_engines.specs.Prelude.{Checks, SoundIsAccepted, CheckWritesAtFault, LineFails, Fails, IsTrueJudgement}
use Rattle.check_engines.specs.Prelude.{Judges, factor_in, judgement_line, verdict_of}
use Rattle.mine_inputs.specs.Prelude.{MineFails, ForTexts, MineTexts, IsMineRead}
use Rattle.check_engines.proofs.Complete.{complete_at}
use Rattle.mine_inputs.proofs.MineDevices.{always, under, for_texts}

pub keeps_self : (w : Option (List ℕ)) → Keeps w w
keeps_self None = tt
keeps_self (Some xs) = refl

-- nothing was written: so it is at any fault
pub at_fault : (texts : MineTexts) (c : List ℕ) (old new : Option (List ℕ)) (fault : EngineFault) → Keeps old new
    → CheckWritesAtFault texts c old new fault
at_fault texts c old new engine.Device k = inl k
at_fault texts c old new fault k = k

pub written : (texts : MineTexts) (c : List ℕ) (old new : Option (List ℕ)) (judgement : Judgement)
    → IsTrueJudgement texts c judgement → Appends old new (judgement_line judgement)
    → Checks texts c old new (Ok (verdict_of judgement))
written texts c old new (Accepted group count worth) h k = record
    { group = group; count = count; worth = worth; accepted = h; written = k }
written texts c old new (Refused fault) h k = record { fault = fault; refused = h; written = k }

pub line_failed : (texts : MineTexts) (c : List ℕ) (old new : Option (List ℕ)) (judgement : Judgement)
    (fault : EngineFault) → IsTrueJudgement texts c judgement → LineFails old new (judgement_line judgement) fault
    → Checks texts c old new (Err fault)
line_failed texts c old new j engine.Memory h k = (tt, k)
line_failed texts c old new j engine.Device h k = (tt, inr (j, h, k))
line_failed texts c old new j fault h k = absurd k

-- a fault of the texts of the mine is one of their check
pub fails : (texts : MineTexts) (c : List ℕ) (e : EngineFault) → MineFails texts e → Fails texts c e
fails texts c (engine.Model q) h = absurd h
fails texts c (engine.Certificate q) h = absurd h
fails texts c (engine.Trace q) h = absurd h
fails texts c engine.Thread h = absurd h
fails texts c engine.Stranger h = absurd h
fails texts c e h = h

-- what is answered of a certificate for a mine that was read, at the factor that it names
abbrev pub JudgedBy : Worths → RestsView → Result Judgement EngineFault → List ℕ → Type 0
JudgedBy worths rests answer c = (texts : MineTexts) → IsMineRead texts (factor_in c) worths rests
    → Judges texts c answer

module _ {D : Type 0} (inputs : MineInputs D) (remaining : D → Option (List ℕ)) (t : Option (List ℕ)) where
  abbrev pub Answers : (List ℕ → MineTexts → Type 0) → Type 0
  Answers Q = IfSome t (λ c. ForTexts inputs remaining (factor_in c) (λ texts. Q c texts))

  -- the texts of the mine were not read
  pub unread : (w : Option (List ℕ)) (e : EngineFault)
      → ((factor : ℕ) → ForTexts inputs remaining factor (λ texts. MineFails texts e))
      → Answers (λ c texts. Checks texts c w w (Err e))
  unread w e h = always t (λ c. ForTexts inputs remaining (factor_in c) (λ texts. Checks texts c w w (Err e))) (λ c.
      for_texts inputs remaining (factor_in c) (λ texts. MineFails texts e) (λ texts. Checks texts c w w (Err e))
      (h (factor_in c)) (λ texts f. (fails texts c e f, at_fault texts c w w e (keeps_self w))))

  -- what follows for the texts of a mine that was read from what is answered of the certificate
  judged : (worths : Worths) (rests : RestsView) (answer : Result Judgement EngineFault)
      (Q : List ℕ → MineTexts → Type 0)
      → ((factor : ℕ) → ForTexts inputs remaining factor (λ texts. IsMineRead texts factor worths rests))
      → IfSome t (JudgedBy worths rests answer)
      → ((c : List ℕ) (texts : MineTexts) → Judges texts c answer → Q c texts) → Answers Q
  judged worths rests answer Q h j f = under t (JudgedBy worths rests answer)
      (λ c. ForTexts inputs remaining (factor_in c) (λ texts. Q c texts)) j (λ c a.
      for_texts inputs remaining (factor_in c) (λ texts. IsMineRead texts (factor_in c) worths rests)
      (λ texts. Q c texts) (h (factor_in c)) (λ texts r. f c texts (a texts r)))

  module _ (worths : Worths) (rests : RestsView)
      (h : (factor : ℕ) → ForTexts inputs remaining factor (λ texts. IsMineRead texts factor worths rests)) where
    -- it could not be judged
    pub unjudged : (w : Option (List ℕ)) (e : EngineFault) → IfSome t (JudgedBy worths rests (Err e))
        → Answers (λ c texts. Checks texts c w w (Err e))
    unjudged w e j = judged worths rests (Err e) (λ c texts. Checks texts c w w (Err e)) h j
        (λ c texts a. (a, at_fault texts c w w e (keeps_self w)))

    -- the line could not be written
    pub untold : (old new : Option (List ℕ)) (judgement : Judgement) (e : EngineFault)
        → IfSome t (JudgedBy worths rests (Ok judgement)) → LineFails old new (judgement_line judgement) e
        → Answers (λ c texts. Checks texts c old new (Err e))
    untold old new judgement e j k = judged worths rests (Ok judgement) (λ c texts. Checks texts c old new (Err e)) h
        j (λ c texts a. line_failed texts c old new judgement e a k)

    -- it was written
    pub told : (old new : Option (List ℕ)) (judgement : Judgement) (verdict : Verdict)
        → verdict ≡ verdict_of judgement → IfSome t (JudgedBy worths rests (Ok judgement))
        → Appends old new (judgement_line judgement) → Answers (λ c texts. Checks texts c old new (Ok verdict))
    told old new judgement verdict v j k = judged worths rests (Ok judgement)
        (λ c texts. Checks texts c old new (Ok verdict)) h j (λ c texts a.
        subst (λ (x : Verdict). Checks texts c old new (Ok x)) (sym v) (written texts c old new judgement a k))

  pub complete : (old new : Option (List ℕ)) (answer : Result Verdict EngineFault)
      → Answers (λ c texts. Checks texts c old new answer) → Answers (λ c texts. SoundIsAccepted texts c answer)
  complete old new answer h = under t
      (λ c. ForTexts inputs remaining (factor_in c) (λ texts. Checks texts c old new answer))
      (λ c. ForTexts inputs remaining (factor_in c) (λ texts. SoundIsAccepted texts c answer)) h (λ c a.
      for_texts inputs remaining (factor_in c) (λ texts. Checks texts c old new answer)
      (λ texts. SoundIsAccepted texts c answer) a (λ texts k. complete_at texts c old new answer k))
