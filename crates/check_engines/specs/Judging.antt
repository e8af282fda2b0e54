-- What judging a certificate gives.
use Rattle.std.specs.Prelude.{◌≡◌, ℕ, ◌+◌, false, List, [], ◌++◌, length, drop, Option, Some, None, Result, Ok, Err}
use Rattle.certificate_file.specs.Prelude.{pieces_of, header_of}
use Rattle.certificate_file.specs.declared.header.Header.{Header}
use Rattle.certificate_file.specs.declared.cert_fault.CertFault.{CertFault}
use Rattle.check_pit.specs.declared.stream_fault.StreamFault.{StreamFault}
use Rattle.check_pit.specs.declared.stream_fault.StreamFault.TheVariants as stream
use Rattle.check_pit.specs.Prelude.{LineView, CertView}
use Rattle.check_engines.specs.declared.judgement.Judgement.{Judgement}
use Rattle.check_engines.specs.declared.judgement.Judgement.TheVariants.{Refused}
use Rattle.engine_faults.specs.declared.engine_fault.EngineFault.{EngineFault}
use Rattle.engine_faults.specs.declared.engine_fault.EngineFault.TheVariants as engine
use Rattle.engine_faults.specs.declared.engine_fault.CertificateProblem.TheVariants as problem
use Rattle.mine_inputs.specs.Prelude.{MineTexts, factor_at}
use Rattle.engine_faults.specs.Prelude.{of_certificate}
use Rattle.check_engines.specs.Judgements.{IsTrueJudgement}
use Rattle.check_engines.specs.FaultStands.{Fails}

-- the factor that a header names, in thousandths: 0 where it names none or isn't read
abbrev pub factor_named : Result Header CertFault → ℕ
factor_named (Ok header) = factor_at header.price
factor_named (Err fault) = 0

-- the factor that the header of a certificate names, in thousandths: 0 where it names none or isn't read
abbrev pub factor_in : List ℕ → ℕ
factor_in certificate = factor_named (header_of (pieces_of certificate))

-- the judgement of the texts of a mine and of a certificate, or a fault that stands in them
abbrev pub Judges : MineTexts → List ℕ → Result Judgement EngineFault → Type 0
Judges texts certificate (Ok judgement) = IsTrueJudgement texts certificate judgement
Judges texts certificate (Err fault) = Fails texts certificate fault

-- what is answered to a stream's fault: a fault of the pit is a judgement
abbrev pub of_stream : StreamFault → Result Judgement EngineFault
of_stream stream.Device = Err engine.Device
of_stream stream.InputTooLong = Err (engine.Certificate problem.InputTooLong)
of_stream (stream.Cert fault) = Err (of_certificate fault)
of_stream (stream.Pit fault) = Ok (Refused fault)

-- nothing was read of the stream
pub record IsFresh {R : Type 0} (s : CertView R) : Type 0 where
  pub held : s.lines.held ≡ []
  pub taken : s.lines.taken ≡ 0
  pub header : s.header ≡ None
  pub fault : s.fault ≡ None
  pub undone : s.is_done ≡ false

-- no fault was answered, and no pit accepted
pub record IsUndecided {R : Type 0} (s : CertView R) : Type 0 where
  pub fault : s.fault ≡ None
  pub undone : s.is_done ≡ false

-- the header of this text was read: the lines after it are in what is held and what the device has left
pub record StandsAfter {R : Type 0} (remaining : R → Option (List ℕ)) (text : List ℕ) (s : LineView R) : Type 0 where
  pub left : List ℕ
  pub known : remaining s.from ≡ Some left
  pub body : drop 4 (pieces_of text) ≡ pieces_of (s.held ++ left)
  pub taken : s.taken + length left ≡ length text
