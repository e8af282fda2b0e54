-- The faults of a list of pairs, and how faults print.
use Rattle.std.specs.Prelude.{ℕ, List, codes, ◌<◌, ◌≤◌, length, All}
pub use Rattle.fixed_worth.specs.FaultText.{at_line}
use Rattle.prec_file.specs.declared.prec_fault.PrecFault.{PrecFault}
use Rattle.prec_file.specs.declared.prec_fault.PrecFault.TheVariants as prec
use Rattle.prec_file.specs.declared.rests_fault.RestsFault.{RestsFault}
use Rattle.prec_file.specs.declared.rests_fault.RestsFault.TheVariants as rests
use Rattle.prec_file.specs.declared.write_fault.PrecWriteFault.{PrecWriteFault}
use Rattle.prec_file.specs.declared.write_fault.PrecWriteFault.TheVariants as write
use Rattle.prec_file.specs.declared.limits.TheConstants.{MOST_PAIRS}
use Rattle.prec_file.specs.Rests.{IsFirstNot, IsKnown, KnownAt}

-- The fault's name, and its line in brackets.
abbrev pub prec_fault_text : PrecFault → List ℕ
prec_fault_text (prec.Text line) = at_line (codes "Text") line
prec_fault_text (prec.Number line) = at_line (codes "Number") line
prec_fault_text (prec.UnknownBlock line) = at_line (codes "UnknownBlock") line
prec_fault_text (prec.Repeated line) = at_line (codes "Repeated") line
prec_fault_text (prec.WrongCount line) = at_line (codes "WrongCount") line
prec_fault_text (prec.TooMany line) = at_line (codes "TooMany") line
prec_fault_text prec.NoMemory = codes "NoMemory"

-- The fault's name, and the place of the pair in brackets.
abbrev pub rests_fault_text : RestsFault → List ℕ
rests_fault_text (rests.UnknownBlock place) = at_line (codes "UnknownBlock") place
rests_fault_text rests.TooMany = codes "TooMany"
rests_fault_text rests.NoMemory = codes "NoMemory"

-- The fault's name, and the block in brackets.
abbrev pub write_fault_text : PrecWriteFault → List ℕ
write_fault_text (write.TooWide block) = at_line (codes "TooWide") block
write_fault_text write.Device = codes "Device"

-- The fault stands, and none that comes before it.
abbrev pub FaultStands : ℕ → List (ℕ × ℕ) → RestsFault → Type 0
FaultStands n listed (rests.UnknownBlock i) = IsFirstNot (KnownAt n listed) (length listed) i
FaultStands n listed rests.TooMany = All (IsKnown n) listed × (MOST_PAIRS < length listed)
FaultStands n listed rests.NoMemory = All (IsKnown n) listed × (length listed ≤ MOST_PAIRS)
