-- How the engine of `replay` ends, by the bytes of their inputs and of their output.
use Rattle.std.specs.Prelude.{◌≡◌, ℕ, ◌⊎◌, List, Option, Result, Ok, Err}
use Rattle.std.specs.Io.KnownBytes.{Appends, Keeps}
use Rattle.counted_devices.specs.Device.{ReceivedPrefix}
use Rattle.ordered_group.specs.declared.groups.Group.{Group}
use Rattle.closure_net.specs.Network.{NetView}
use Rattle.machine_law.specs.declared.events.Event.{Event}
use Rattle.trace_file.specs.Faults.{events_of}
use Rattle.check_engines.specs.declared.judgement.Verdict.{Verdict}
use Rattle.engine_faults.specs.declared.engine_fault.EngineFault.{EngineFault}
use Rattle.engine_faults.specs.declared.engine_fault.EngineFault.TheVariants as engine
use Rattle.mine_inputs.specs.Prelude.{MineFails, MineTexts, DenoteMine}
use Rattle.check_engines.specs.Prelude.{ModelFails}
use Rattle.solve_engines.specs.Prelude.{IsNetBy}
use Rattle.replay_engines.specs.declared.outcome.Outcome.{Outcome}
use Rattle.replay_engines.specs.TraceTexts.{IsTrace, TraceFails}
use Rattle.replay_engines.specs.Outcomes.{IsOutcome, outcome_text, outcome_verdict}

-- The texts denote a mine, whose net this is in amounts of the group, and this comes of the events over it.
pub record ComesOf (texts : MineTexts) (name : Group) (events : List Event) (outcome : Outcome) : Type 0 where
  pub net : NetView
  pub by : IsNetBy texts name net
  pub is : IsOutcome texts name net events outcome

-- The text of a trace is read, and this comes of its events.
pub record IsReplay (texts : MineTexts) (name : Group) (trace : List ℕ) (outcome : Outcome) : Type 0 where
  pub read : IsTrace trace
  pub comes : ComesOf texts name (events_of trace) outcome

-- nothing comes of events where there is no net of the mine, or for want of memory
abbrev pub NothingComes : MineTexts → Group → EngineFault → Type 0
NothingComes texts name (engine.Model fault) = (n : ℕ) × DenoteMine texts n × ModelFails texts n name fault
NothingComes texts name engine.Memory = Unit {0}
NothingComes texts name _ = ⊥

-- Why the engine answers a fault: it is one of the texts; or, where they are read, one of the trace or of the mine's
-- net.
abbrev pub ReplayFails : MineTexts → Group → List ℕ → EngineFault → Type 0
ReplayFails texts name trace (engine.Trace p) = (n : ℕ) × DenoteMine texts n × TraceFails trace p
ReplayFails texts name trace (engine.Model fault) = IsTrace trace × NothingComes texts name (engine.Model fault)
ReplayFails texts name trace fault = MineFails texts fault

-- what is in the writer at a fault: what was there before, unless a device failed; then perhaps a prefix of an answer
-- too
abbrev pub WritesReplayPrefix : MineTexts → Group → List ℕ → Option (List ℕ) → Option (List ℕ) → Type 0
WritesReplayPrefix texts name trace old new = Keeps old new
    ⊎ ((outcome : Outcome) × IsReplay texts name trace outcome × ReceivedPrefix old new (outcome_text outcome))

abbrev pub ReplayAtFault : MineTexts → Group → List ℕ → Option (List ℕ) → Option (List ℕ) → EngineFault → Type 0
ReplayAtFault texts name trace old new engine.Device = WritesReplayPrefix texts name trace old new
ReplayAtFault texts name trace old new _ = Keeps old new

-- the answer, and what was written with it
abbrev pub Replays : MineTexts → Group → List ℕ → Option (List ℕ) → Option (List ℕ) → Result Verdict EngineFault
    → Type 0
Replays texts name trace old new (Ok verdict) = (outcome : Outcome) × IsReplay texts name trace outcome
    × (verdict ≡ outcome_verdict outcome) × Appends old new (outcome_text outcome)
Replays texts name trace old new (Err fault) = ReplayFails texts name trace fault
    × ReplayAtFault texts name trace old new fault
