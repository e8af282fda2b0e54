-- The exit status of an engine's answer.
use Rattle.std.specs.Prelude.{ℕ, Result, Ok, Err}
use Rattle.check_engines.specs.declared.judgement.Verdict.{Verdict}
use Rattle.check_engines.specs.declared.judgement.Verdict.TheVariants.{Done, No}
use Rattle.engine_faults.specs.declared.engine_fault.EngineFault.{EngineFault}
use Rattle.engine_faults.specs.declared.engine_fault.EngineFault.TheVariants as engine

-- 4 for what the machine fails at, 3 for what is wrong with an input
abbrev pub fault_status : EngineFault → ℕ
fault_status engine.Memory = 4
fault_status engine.Device = 4
fault_status engine.Thread = 4
fault_status engine.Stranger = 4
fault_status _ = 3

abbrev pub status_of : Result Verdict EngineFault → ℕ
status_of (Ok Done) = 0
status_of (Ok No) = 1
status_of (Err fault) = fault_status fault
