-- Faults as they are printed.
use Rattle.std.specs.Prelude.{ℕ, ◌++◌, List, codes, decimal}
use Rattle.slope.specs.declared.slope_fault.SlopeFault.{SlopeFault}
use Rattle.slope.specs.declared.slope_fault.SlopeFault.TheVariants as slope
use Rattle.slope.specs.declared.region_fault.RegionFault.{RegionFault}
use Rattle.slope.specs.declared.region_fault.RegionFault.TheVariants as region

-- The fault's name, and the two blocks in brackets.
abbrev pub slope_fault_text : SlopeFault → List ℕ
slope_fault_text (slope.SamePlace b c) = codes "SamePlace(" ++ decimal b ++ codes ", " ++ decimal c ++ codes ")"
slope_fault_text slope.TooMany = codes "TooMany"
slope_fault_text slope.NoMemory = codes "NoMemory"

-- The fault's name, and in brackets the blocks, the region or the offset.
abbrev pub region_fault_text : RegionFault → List ℕ
region_fault_text (region.SamePlace b c) = codes "SamePlace(" ++ decimal b ++ codes ", " ++ decimal c ++ codes ")"
region_fault_text (region.UnknownRegion b) = codes "UnknownRegion(" ++ decimal b ++ codes ")"
region_fault_text (region.NotUpward r i) = codes "NotUpward(" ++ decimal r ++ codes ", " ++ decimal i ++ codes ")"
region_fault_text (region.TooManyOffsets r) = codes "TooManyOffsets(" ++ decimal r ++ codes ")"
region_fault_text region.TooManyRegions = codes "TooManyRegions"
region_fault_text region.TooMany = codes "TooMany"
region_fault_text region.NoMemory = codes "NoMemory"
