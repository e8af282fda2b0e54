-- How the engine of `value` ends, by the bytes of its inputs and of its output.
use Rattle.std.specs.Prelude.{◌≡◌, ℕ, ◌⊎◌, List, Option, Result, Ok, Err}
use Rattle.std.specs.Io.KnownBytes.{Appends, Keeps}
use Rattle.counted_devices.specs.Device.{ReceivedPrefix}
use Rattle.design_file.specs.Records.{design_of}
use Rattle.design_value.specs.Sums.{SumLeaves}
use Rattle.check_engines.specs.declared.judgement.Verdict.{Verdict}
use Rattle.engine_faults.specs.declared.engine_fault.EngineFault.TheVariants as engine
use Rattle.mine_inputs.specs.Prelude.{MineFails, MineTexts, DenoteMine, worth_by_texts}
use Rattle.design_engines.specs.declared.value_fault.DesignProblem.TheVariants as problem
use Rattle.design_engines.specs.declared.value_fault.ValueFault.{ValueFault}
use Rattle.design_engines.specs.declared.value_fault.ValueFault.TheVariants as value
use Rattle.design_engines.specs.DesignTexts.{IsDesign, DesignFails}
use Rattle.design_engines.specs.Designs.{DesignView, IsValued, design_text, verdict_for}

-- The texts denote a mine and a design, and a sum of the worths of the design's blocks, ascending, doesn't fit 128
-- bits.
pub record WorthLeaves (texts : MineTexts) (design : List ℕ) : Type 0 where
  pub blocks : ℕ
  pub mine : DenoteMine texts blocks
  pub drawn : IsDesign blocks design
  pub leaves : SumLeaves (worth_by_texts texts) (design_of design) blocks

-- nothing is told of a design for want of memory, or where its worth doesn't fit
abbrev pub NoValue : MineTexts → List ℕ → ValueFault → Type 0
NoValue texts design (value.Engine engine.Memory) = Unit {0}
NoValue texts design (value.Design problem.TooLarge) = WorthLeaves texts design
NoValue texts design _ = ⊥

-- Why the engine answers a fault: it is one of the texts of the mine; or, where they are read, one of the design.
abbrev pub ValueFails : MineTexts → List ℕ → ValueFault → Type 0
ValueFails texts design (value.Engine fault) = MineFails texts fault
ValueFails texts design (value.Design problem.TooLarge) = WorthLeaves texts design
ValueFails texts design (value.Design p) = (n : ℕ) × DenoteMine texts n × DesignFails n design p

-- what is in the writer at a fault: what was there before, unless a device failed; then perhaps a prefix of an answer
-- too
abbrev pub WritesValuePrefix : MineTexts → List ℕ → Option (List ℕ) → Option (List ℕ) → Type 0
WritesValuePrefix texts design old new = Keeps old new
    ⊎ ((v : DesignView) × IsValued texts design v × ReceivedPrefix old new (design_text v))

abbrev pub ValueAtFault : MineTexts → List ℕ → Option (List ℕ) → Option (List ℕ) → ValueFault → Type 0
ValueAtFault texts design old new (value.Engine engine.Device) = WritesValuePrefix texts design old new
ValueAtFault texts design old new _ = Keeps old new

-- the answer, and what was written with it
abbrev pub Values : MineTexts → List ℕ → Option (List ℕ) → Option (List ℕ) → Result Verdict ValueFault → Type 0
Values texts design old new (Ok verdict) = (v : DesignView) × IsValued texts design v
    × (verdict ≡ verdict_for v.leading) × Appends old new (design_text v)
Values texts design old new (Err fault) = ValueFails texts design fault × ValueAtFault texts design old new fault
