-- Reading the text of a trace, as an engine does.
use Rattle.std.specs.Prelude.{◌≡◌, ℕ, List, Some, None}
use Rattle.machine_law.specs.declared.events.Event.{Event}
use Rattle.trace_file.specs.Faults.{events_of, trace_fault_of}
use Rattle.trace_file.specs.declared.trace_fault.TraceFault.{TraceFault}
use Rattle.engine_faults.specs.declared.engine_fault.Problem.{Problem}
use Rattle.engine_faults.specs.declared.engine_fault.Problem.TheVariants as problem
use Rattle.engine_faults.specs.declared.engine_fault.EngineFault.{EngineFault}
use Rattle.engine_faults.specs.declared.engine_fault.EngineFault.TheVariants as engine
use Rattle.mine_inputs.specs.Limits.{IsTooLong, IsWithinLimit}

-- the text isn't too long, and is a trace
pub record IsTrace (text : List ℕ) : Type 0 where
  pub within : IsWithinLimit text
  pub sound : trace_fault_of text ≡ None

-- the text is no trace: it is too long, or has this fault
abbrev pub TraceFails : List ℕ → Problem TraceFault → Type 0
TraceFails text problem.InputTooLong = IsTooLong text
TraceFails text (problem.Fault fault) = IsWithinLimit text × (trace_fault_of text ≡ Some fault)

-- the text is a trace of these events
abbrev pub ReadsTrace : List ℕ → List Event → Type 0
ReadsTrace text events = IsTrace text × (events ≡ events_of text)

-- how reading a trace fails
abbrev pub TraceReadFails : List ℕ → EngineFault → Type 0
TraceReadFails text (engine.Trace p) = TraceFails text p
TraceReadFails text engine.Memory = Unit {0}
TraceReadFails text engine.Device = Unit {0}
TraceReadFails text _ = ⊥
