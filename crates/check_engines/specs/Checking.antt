-- How the engine of `check` ends, by the bytes of its inputs and of its output.
use Rattle.std.specs.Prelude.{ℕ, ℤ, ◌⊎◌, List, Option, Result, Ok, Err}
use Rattle.std.specs.Io.KnownBytes.{Appends, Keeps}
use Rattle.ordered_group.specs.declared.groups.Group.{Group}
use Rattle.check_pit.specs.declared.pit_fault.PitFault.{PitFault}
use Rattle.check_pit.specs.Checks.{ProvesPit}
use Rattle.counted_devices.specs.Device.{ReceivedPrefix}
use Rattle.check_engines.specs.declared.judgement.Judgement.{Judgement}
use Rattle.check_engines.specs.declared.judgement.Judgement.TheVariants.{Accepted, Refused}
use Rattle.check_engines.specs.declared.judgement.Verdict.{Verdict}
use Rattle.check_engines.specs.declared.judgement.Verdict.TheVariants.{Done, No}
use Rattle.engine_faults.specs.declared.engine_fault.EngineFault.{EngineFault}
use Rattle.engine_faults.specs.declared.engine_fault.EngineFault.TheVariants as engine
use Rattle.engine_faults.specs.declared.engine_fault.CertificateProblem.TheVariants as certificate
use Rattle.engine_faults.specs.declared.engine_fault.SlopeProblem.{SlopeProblem}
use Rattle.engine_faults.specs.declared.engine_fault.SlopeProblem.TheVariants as of
use Rattle.slope.specs.declared.region_fault.RegionFault.TheVariants as region
use Rattle.mine_inputs.specs.Prelude.{IsTooLong, MineTexts}
use Rattle.check_engines.specs.Readings.{Reads, counts_by}
use Rattle.check_engines.specs.Refusals.{SomeSumLeaves}
use Rattle.check_engines.specs.Judgements.{CertificateAccepted, CertificateRefused, IsTrueJudgement}
use Rattle.check_engines.specs.FaultStands.{Fails}
use Rattle.check_engines.specs.OutputLines.{judgement_line}

-- The engine wrote ACCEPTED with the number of blocks and the worth of a pit that the texts prove.
pub record WritesAccepted (texts : MineTexts) (certificate : List ℕ) (old new : Option (List ℕ)) : Type 0 where
  pub group : Group
  pub count : ℕ
  pub worth : ℤ
  pub accepted : CertificateAccepted texts certificate group count worth
  pub written : Appends old new (judgement_line (Accepted group count worth))

-- The engine wrote REFUSED with a fault that stands.
pub record WritesRefused (texts : MineTexts) (certificate : List ℕ) (old new : Option (List ℕ)) : Type 0 where
  pub fault : PitFault
  pub refused : CertificateRefused texts certificate fault
  pub written : Appends old new (judgement_line (Refused fault))

-- Nothing was written, or a front of the line of a judgement that stands.
abbrev pub WritesFront : MineTexts → List ℕ → Option (List ℕ) → Option (List ℕ) → Type 0
WritesFront texts certificate old new = Keeps old new
    ⊎ ((judgement : Judgement) × IsTrueJudgement texts certificate judgement
    × ReceivedPrefix old new (judgement_line judgement))

-- what is in the writer where an engine answers a fault: what was there before, unless a device failed
abbrev pub CheckWritesAtFault : MineTexts → List ℕ → Option (List ℕ) → Option (List ℕ) → EngineFault → Type 0
CheckWritesAtFault texts certificate old new engine.Device = WritesFront texts certificate old new
CheckWritesAtFault texts certificate old new _ = Keeps old new

-- a line could not be written: for want of memory nothing was, and else a front of it
abbrev pub LineFails : Option (List ℕ) → Option (List ℕ) → List ℕ → EngineFault → Type 0
LineFails old new line engine.Memory = Keeps old new
LineFails old new line engine.Device = ReceivedPrefix old new line
LineFails old new line _ = ⊥

-- the answer, and what was written with it
abbrev pub Checks : MineTexts → List ℕ → Option (List ℕ) → Option (List ℕ) → Result Verdict EngineFault → Type 0
Checks texts certificate old new (Ok Done) = WritesAccepted texts certificate old new
Checks texts certificate old new (Ok No) = WritesRefused texts certificate old new
Checks texts certificate old new (Err fault) = Fails texts certificate fault
    × CheckWritesAtFault texts certificate old new fault

-- there are more pairs than a list may have, and a list had to be made
abbrev pub IsTooManyToList : SlopeProblem → Type 0
IsTooManyToList (of.Regions region.TooMany) = Unit {0}
IsTooManyToList _ = ⊥

-- what keeps a sound certificate from being accepted: memory, a device, the certificate's own length, or more pairs
-- than a list may have where one has to be made
abbrev pub Hinders : List ℕ → EngineFault → Type 0
Hinders text engine.Memory = Unit {0}
Hinders text engine.Device = Unit {0}
Hinders text (engine.Slope problem) = IsTooManyToList problem
Hinders text (engine.Certificate certificate.InputTooLong) = IsTooLong text
Hinders text _ = ⊥

-- the engine accepts, unless something hinders it, or a sum on the way doesn't fit
abbrev pub AcceptsUnlessHindered : List ℕ → Type 0 → Result Verdict EngineFault → Type 0
AcceptsUnlessHindered text leaves (Ok Done) = Unit {0}
AcceptsUnlessHindered text leaves (Ok No) = leaves
AcceptsUnlessHindered text leaves (Err fault) = Hinders text fault

-- A certificate whose flow is one and whose pit is closed and tight is accepted, where each sum over its first lines
-- fits.
abbrev pub SoundIsAccepted : MineTexts → List ℕ → Result Verdict EngineFault → Type 0
SoundIsAccepted texts certificate answer = (read : Reads texts certificate) → ProvesPit read.net read.flow read.pit
    → AcceptsUnlessHindered certificate (SomeSumLeaves (counts_by read.group) read.net certificate) answer
