-- What a text of blocks says, and how reading it fails.
use Rattle.std.specs.Prelude.{◌≡◌, ℕ, List, Some, None}
use Rattle.blocks_file.specs.Records as blocks
use Rattle.blocks_file.specs.Denotes.{BlocksView, DenotesModel}
use Rattle.blocks_file.specs.declared.blocks_fault.BlocksFault.{BlocksFault}
use Rattle.engine_faults.specs.declared.engine_fault.Problem.{Problem}
use Rattle.engine_faults.specs.declared.engine_fault.Problem.TheVariants as problem
use Rattle.engine_faults.specs.declared.engine_fault.EngineFault.{EngineFault}
use Rattle.engine_faults.specs.declared.engine_fault.EngineFault.TheVariants as engine
use Rattle.mine_inputs.specs.Limits.{IsTooLong, IsWithinLimit}

-- the text isn't too long and has no fault, and these are its blocks with the chosen columns
abbrev pub ReadsBlocks : List ℕ → List ℕ → BlocksView → Type 0
ReadsBlocks chosen text m = IsWithinLimit text × (blocks.blocks_fault_of chosen text ≡ None)
    × DenotesModel chosen text m

-- the text is no text of blocks: it is too long, or has this fault
abbrev pub BlocksFails : List ℕ → List ℕ → Problem BlocksFault → Type 0
BlocksFails chosen text problem.InputTooLong = IsTooLong text
BlocksFails chosen text (problem.Fault fault) = IsWithinLimit text × (blocks.blocks_fault_of chosen text ≡ Some fault)

-- how reading the blocks fails
abbrev pub BlocksReadFails : List ℕ → List ℕ → EngineFault → Type 0
BlocksReadFails chosen text (engine.Blocks p) = BlocksFails chosen text p
BlocksReadFails chosen text engine.Memory = Unit {0}
BlocksReadFails chosen text engine.Device = Unit {0}
BlocksReadFails chosen text _ = ⊥
