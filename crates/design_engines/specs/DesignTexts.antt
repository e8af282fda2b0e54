-- Reading the text of a design, as an engine does.
use Rattle.std.specs.Prelude.{◌≡◌, ℕ, Bool, List, Some, None}
use Rattle.design_file.specs.Records.{design_fault_of, AreMarks}
use Rattle.engine_faults.specs.declared.engine_fault.EngineFault.TheVariants as engine
use Rattle.mine_inputs.specs.Limits.{IsTooLong, IsWithinLimit}
use Rattle.design_engines.specs.declared.value_fault.DesignProblem.{DesignProblem}
use Rattle.design_engines.specs.declared.value_fault.DesignProblem.TheVariants as problem
use Rattle.design_engines.specs.declared.value_fault.ValueFault.{ValueFault}
use Rattle.design_engines.specs.declared.value_fault.ValueFault.TheVariants as value

-- the text isn't too long, and is a design of some of n blocks
pub record IsDesign (n : ℕ) (text : List ℕ) : Type 0 where
  pub within : IsWithinLimit text
  pub sound : design_fault_of n text ≡ None

-- the text is no design of n blocks: it is too long, or has this fault
abbrev pub DesignFails : ℕ → List ℕ → DesignProblem → Type 0
DesignFails n text problem.InputTooLong = IsTooLong text
DesignFails n text (problem.Fault fault) = IsWithinLimit text × (design_fault_of n text ≡ Some fault)
DesignFails n text problem.TooLarge = ⊥

-- the text is a design of n blocks, and these are the marks of its blocks
abbrev pub ReadsDesign : ℕ → List ℕ → List Bool → Type 0
ReadsDesign n text marks = IsDesign n text × AreMarks n text marks

-- how reading a design fails
abbrev pub DesignReadFails : ℕ → List ℕ → ValueFault → Type 0
DesignReadFails n text (value.Design p) = DesignFails n text p
DesignReadFails n text (value.Engine engine.Memory) = Unit {0}
DesignReadFails n text (value.Engine engine.Device) = Unit {0}
DesignReadFails n text (value.Engine _) = ⊥
