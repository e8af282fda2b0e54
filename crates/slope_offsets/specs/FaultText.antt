-- A fault as it is printed.
use Rattle.std.specs.Prelude.{ℕ, ◌++◌, List, codes, decimal}
use Rattle.slope_offsets.specs.declared.pattern_fault.PatternFault.{PatternFault}
use Rattle.slope_offsets.specs.declared.pattern_fault.PatternFault.TheVariants as pattern

-- The fault's name, and the place of the offset in brackets.
abbrev pub pattern_fault_text : PatternFault → List ℕ
pattern_fault_text (pattern.NotUpward place) = codes "NotUpward(" ++ decimal place ++ codes ")"
pattern_fault_text pattern.TooMany = codes "TooMany"
pattern_fault_text pattern.NoMemory = codes "NoMemory"
