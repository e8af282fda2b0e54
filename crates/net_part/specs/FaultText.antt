-- How faults are printed.
use Rattle.std.specs.Prelude.{ℕ, List, codes}
use Rattle.net_part.specs.declared.fault.PseudoflowFault.{PseudoflowFault}
use Rattle.net_part.specs.declared.fault.PseudoflowFault.TheVariants.{Unsettled, TooLarge, Broken, NoMemory}

-- The fault's name.
abbrev pub pseudoflow_fault_text : PseudoflowFault → List ℕ
pseudoflow_fault_text Unsettled = codes "Unsettled"
pseudoflow_fault_text TooLarge = codes "TooLarge"
pseudoflow_fault_text Broken = codes "Broken"
pseudoflow_fault_text NoMemory = codes "NoMemory"
