-- How faults are printed.
use Rattle.std.specs.Prelude.{ℕ, List, ◌++◌, codes, decimal}
pub use Rattle.fixed_worth.specs.FaultText.{at_line}
use Rattle.certificate_file.specs.Certificate.{cert_fault_text}
use Rattle.check_pit.specs.declared.pit_fault.PitFault.{PitFault}
use Rattle.check_pit.specs.declared.pit_fault.PitFault.TheVariants.{WrongSize, NotClosed, Negative, OverCapacity}
use Rattle.check_pit.specs.declared.pit_fault.PitFault.TheVariants.{Unbalanced, NotTight, TooLarge}
use Rattle.check_pit.specs.declared.stream_fault.StreamFault.{StreamFault}
use Rattle.check_pit.specs.declared.stream_fault.StreamFault.TheVariants as stream

-- of a pit and a flow: the fault's name, and in parentheses the blocks that it names
abbrev pub pit_fault_text : PitFault → List ℕ
pit_fault_text WrongSize = codes "WrongSize"
pit_fault_text (NotClosed b p) = codes "NotClosed(" ++ (decimal b ++ (codes ", " ++ (decimal p ++ codes ")")))
pit_fault_text Negative = codes "Negative"
pit_fault_text (OverCapacity b) = at_line (codes "OverCapacity") b
pit_fault_text (Unbalanced b) = at_line (codes "Unbalanced") b
pit_fault_text NotTight = codes "NotTight"
pit_fault_text TooLarge = codes "TooLarge"

-- of a certificate that is read line by line: the fault of its text, or of its pit and flow, as these are printed
abbrev pub stream_fault_text : StreamFault → List ℕ
stream_fault_text stream.Device = codes "Device"
stream_fault_text stream.InputTooLong = codes "InputTooLong"
stream_fault_text (stream.Cert fault) = cert_fault_text fault
stream_fault_text (stream.Pit fault) = pit_fault_text fault
