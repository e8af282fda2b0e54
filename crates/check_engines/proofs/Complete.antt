-- What follows of the answer for a sound certificate.
use Rattle.std.proofs.Common.{ℕ, List, Option, Result, Ok, Err, inl, inr}
use Rattle.check_engines.specs.declared.judgement.Verdict.{Verdict}
use Rattle.check_engines.specs.declared.judgement.Verdict.TheVariants.{Done, No}
use Rattle.engine_faults.specs.declared.engine_fault.EngineFault.{EngineFault}
use Rattle.engine_faults.specs.declared.engine_fault.EngineFault.TheVariants as engine
use Rattle.check_engines.specs.Checking.{Checks, SoundIsAccepted}
use Rattle.mine_inputs.specs.Mines.{MineTexts}
use Rattle.check_engines.proofs.SoundLines.{refused_leaves}
use Rattle.engine_faults.specs.declared.engine_fault.CertificateProblem.TheVariants as problem
use Rattle.check_engines.proofs.Unread.{upit_read, settings_read, blocks_read, prices_read, prec_read, slopes_read}
use Rattle.check_engines.proofs.Unread.{model_read, price_read, header_read, body_read}

pub complete_at : (texts : MineTexts) (c : List ℕ) (old new : Option (List ℕ)) (answer : Result Verdict EngineFault)
    → Checks texts c old new answer → SoundIsAccepted texts c answer
complete_at texts c old new (Ok Done) h read s = tt
complete_at texts c old new (Ok No) h read s = refused_leaves texts c h.fault read s h.refused
complete_at texts c old new (Err (engine.Upit q)) h read s = upit_read texts c q read h.0
complete_at texts c old new (Err (engine.Prec q)) h read s = prec_read texts c h.0.0 q read h.0.1 h.0.2
complete_at texts c old new (Err (engine.Slope q)) h read s = slopes_read texts c q read h.0.2
complete_at texts c old new (Err (engine.Model f)) h read s = model_read texts c h.0.0 h.0.2 f read h.0.3 h.0.4
complete_at texts c old new (Err (engine.Certificate problem.InputTooLong)) h read s = h.0.2
complete_at texts c old new (Err (engine.Certificate problem.WrongPrice)) h read s = price_read texts c h.0.0 read h.0.2
complete_at texts c old new (Err (engine.Certificate (problem.Fault f))) h read s = elim h.0.2
    [ inl a ↦ header_read texts c h.0.0 f read h.0.1 a | inr b ↦ body_read texts c h.0.0 f read h.0.1 b ]
complete_at texts c old new (Err (engine.Settings q)) h read s = settings_read texts c q read h.0
complete_at texts c old new (Err (engine.Blocks q)) h read s = blocks_read texts c q read h.0
complete_at texts c old new (Err (engine.Prices f)) h read s = prices_read texts c f read h.0
complete_at texts c old new (Err engine.Memory) h read s = tt
complete_at texts c old new (Err engine.Device) h read s = tt
complete_at texts c old new (Err _) h read s = absurd h.0
