-- How the engine of `value` ends where a certificate is given, by the bytes of its inputs and of its output.
use Rattle.std.specs.Prelude.{◌≡◌, ℕ, ℤ, ◌-ℤ◌, ◌⊎◌, List, Option, Result, Ok, Err, FitsSigned}
use Rattle.std.specs.Int.{w128}
use Rattle.std.specs.Io.KnownBytes.{Appends, Keeps}
use Rattle.counted_devices.specs.Device.{ReceivedPrefix}
use Rattle.ordered_group.specs.declared.groups.Group.{Group}
use Rattle.check_engines.specs.declared.judgement.Judgement.{Judgement}
use Rattle.check_engines.specs.declared.judgement.Verdict.{Verdict}
use Rattle.engine_faults.specs.declared.engine_fault.EngineFault.TheVariants as engine
use Rattle.mine_inputs.specs.Prelude.{MineFails, MineTexts, DenoteMine}
use Rattle.check_engines.specs.Prelude.{Fails, CertificateAccepted, IsTrueJudgement}
use Rattle.design_engines.specs.declared.value_fault.DesignProblem.TheVariants as problem
use Rattle.design_engines.specs.declared.value_fault.ValueFault.{ValueFault}
use Rattle.design_engines.specs.declared.value_fault.ValueFault.TheVariants as value
use Rattle.design_engines.specs.DesignTexts.{DesignFails}
use Rattle.design_engines.specs.Designs.{DesignView, IsValued}
use Rattle.design_engines.specs.Comparisons.{IsDrawn, ComparedView, IsComparison, compared_design_text}
use Rattle.design_engines.specs.Comparisons.{compared_design_verdict}
use Rattle.design_engines.specs.Values.{WorthLeaves}

-- ---- a design and a judgement, before they are compared

-- what the design comes to, and what a check says of the certificate
abbrev pub IsBeside : MineTexts → List ℕ → List ℕ → DesignView → Judgement → Type 0
IsBeside texts design certificate v judgement = IsValued texts design v × IsTrueJudgement texts certificate judgement

-- why there are not both: a fault that a check would answer, or the design's worth doesn't fit
abbrev pub ComparisonFails : MineTexts → List ℕ → List ℕ → ValueFault → Type 0
ComparisonFails texts design certificate (value.Engine fault) = Fails texts certificate fault
ComparisonFails texts design certificate (value.Design problem.TooLarge) = WorthLeaves texts design
ComparisonFails texts design certificate (value.Design _) = ⊥

-- ---- the engine

-- A check accepts the certificate, and what its pit is worth more than the design doesn't fit 128 bits.
pub record GapLeaves (texts : MineTexts) (design certificate : List ℕ) : Type 0 where
  pub v : DesignView
  pub valued : IsValued texts design v
  pub name : Group
  pub count : ℕ
  pub worth : ℤ
  pub best : CertificateAccepted texts certificate name count worth
  pub leaves : ¬ (FitsSigned w128 (worth -ℤ v.worth))

-- Why the engine answers a fault: it is one that a check would answer, and of the texts of the mine unless the design
-- is read; or, where the texts of the mine are read, it is one of the design.
abbrev pub CompareFails : MineTexts → List ℕ → List ℕ → ValueFault → Type 0
CompareFails texts design certificate (value.Engine fault) = Fails texts certificate fault
    × (MineFails texts fault ⊎ IsDrawn texts design)
CompareFails texts design certificate (value.Design problem.TooLarge) = WorthLeaves texts design
    ⊎ GapLeaves texts design certificate
CompareFails texts design certificate (value.Design p) = (n : ℕ) × DenoteMine texts n × DesignFails n design p

-- what is in the writer at a fault: what was there before, unless a device failed; then perhaps a prefix of an answer
-- too
abbrev pub WritesComparedPrefix : MineTexts → List ℕ → List ℕ → Option (List ℕ) → Option (List ℕ) → Type 0
WritesComparedPrefix texts design certificate old new = Keeps old new
    ⊎ ((x : ComparedView) × IsComparison texts design certificate x × ReceivedPrefix old new (compared_design_text x))

abbrev pub CompareAtFault : MineTexts → List ℕ → List ℕ → Option (List ℕ) → Option (List ℕ) → ValueFault → Type 0
CompareAtFault texts design certificate old new (value.Engine engine.Device) = WritesComparedPrefix texts design
    certificate old new
CompareAtFault texts design certificate old new _ = Keeps old new

-- the answer, and what was written with it
abbrev pub ComparesDesign : MineTexts → List ℕ → List ℕ → Option (List ℕ) → Option (List ℕ)
    → Result Verdict ValueFault → Type 0
ComparesDesign texts design certificate old new (Ok verdict) = (x : ComparedView)
    × IsComparison texts design certificate x × (verdict ≡ compared_design_verdict x)
    × Appends old new (compared_design_text x)
ComparesDesign texts design certificate old new (Err fault) = CompareFails texts design certificate fault
    × CompareAtFault texts design certificate old new fault
