-- The names that faults of devices print.
use Rattle.std.specs.Prelude.{ℕ, List, codes}
use Rattle.counted_devices.specs.declared.whole_input.InputFault.{InputFault}
use Rattle.counted_devices.specs.declared.whole_input.InputFault.TheVariants as input
use Rattle.counted_devices.specs.declared.sending.WriteFault.{WriteFault}
use Rattle.counted_devices.specs.declared.sending.WriteFault.TheVariants as write

abbrev pub input_fault_name : InputFault → List ℕ
input_fault_name input.Device = codes "Device"
input_fault_name input.InputTooLong = codes "InputTooLong"
input_fault_name input.NoMemory = codes "NoMemory"

abbrev pub write_fault_name : WriteFault → List ℕ
write_fault_name write.Device = codes "Device"
