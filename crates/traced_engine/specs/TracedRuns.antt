-- How the engine of `solve` ends where it writes the trace of its run too, by the bytes of its inputs and of its two
-- outputs.
use Rattle.std.specs.Prelude.{◌≡◌, ℕ, ◌⊎◌, Bool, List, [], ◌∷◌, ◌++◌, codes, Option, Result, Ok, Err}
use Rattle.std.specs.Io.KnownBytes.{Appends, Keeps}
use Rattle.counted_devices.specs.Device.{ReceivedPrefix}
use Rattle.ordered_group.specs.declared.groups.Group.{Group}
use Rattle.closure_net.specs.Prelude.{NetView, FlowView, holds_of, IsReached}
use Rattle.machine_law.specs.declared.events.Event.{Event}
use Rattle.workers.specs.Auditing.{IsSomeHistory, IsAudit, IsCutOffAfter, OverflowsAfter, FillsItsRoom}
use Rattle.workers.specs.declared.auditing.AuditEnd.{AuditEnd}
use Rattle.workers.specs.declared.auditing.AuditEnd.TheVariants.{NoFlow, HistoryFull}
use Rattle.trace_file.specs.Written.{trace_text}
use Rattle.check_pit.specs.Checks.{IsOfNet, PitFaultStands}
use Rattle.check_pit.specs.declared.pit_fault.PitFault.TheVariants as pit_fault
use Rattle.certificate_file.specs.declared.header.Price.{Price}
use Rattle.check_engines.specs.declared.judgement.Verdict.{Verdict}
use Rattle.check_engines.specs.declared.judgement.Verdict.TheVariants.{Done, No}
use Rattle.engine_faults.specs.declared.engine_fault.EngineFault.{EngineFault}
use Rattle.engine_faults.specs.declared.engine_fault.EngineFault.TheVariants as engine
use Rattle.mine_inputs.specs.Mines.{MineTexts, price_wanted}
use Rattle.check_engines.specs.Prelude.{counts_by}
use Rattle.solve_engines.specs.Prelude.{unsettled_line, too_large_line, no_line, IsCertificateOf, IsTextOf}
use Rattle.solve_engines.specs.Prelude.{IsCertificate, IsNetBy, SolveFails, unsolved_by}

-- ---- what a run with this history answers for a net

-- The text is a certificate of the net, and the replay of the history leads to the flow that it names.
pub record IsCertificateOfRun (counts : Bool) (name : Group) (price : Price) (net : NetView) (limit room : ℕ)
    (history : List Event) (text : List ℕ) : Type 0 where
  pub certificate : IsCertificateOf counts name price net text
  pub audit : IsAudit net limit room certificate.flow history

-- the text to be written of such a run
pub record IsTextOfRun (name : Group) (price : Price) (net : NetView) (limit room : ℕ) (history : List Event)
    (text : List ℕ) : Type 0 where
  pub due : IsTextOf name price net text
  pub audit : IsAudit net limit room due.flow history

-- The check of what the run leaves, with the blocks that the source reaches in it, finds a sum that doesn't fit.
pub record CheckOverflowsAfter (net : NetView) (limit room : ℕ) (history : List Event) : Type 0 where
  pub flow : FlowView
  pub audit : IsAudit net limit room flow history
  pub pit : List ℕ
  pub reached : IsReached net flow (holds_of pit)
  pub of_net : IsOfNet net pit
  pub stands : PitFaultStands net flow pit pit_fault.TooLarge

-- the line where the history has no room
abbrev pub history_full_line : List ℕ
history_full_line = codes "HISTORYFULL" ++ 10 ∷ []

-- the line that says why a run gives no flow, or the fault that does
abbrev pub no_flow_line : AuditEnd → Result (List ℕ) EngineFault
no_flow_line HistoryFull = Ok history_full_line
no_flow_line (NoFlow why) = no_line (unsolved_by why)

-- The line of an answer without a certificate, and what its history shows: that it has as many events as the limit, or
-- as many as there is room for below the limit, and some block has excess or an operation after it; or that the next
-- step of some block, or the check of the flow, needs a number that doesn't fit.
abbrev pub IsNoOfRun : NetView → ℕ → ℕ → List Event → List ℕ → Type 0
IsNoOfRun net limit room history text =
    (IsCutOffAfter net limit room history × (text ≡ unsettled_line))
    ⊎ (FillsItsRoom net limit room history × (text ≡ history_full_line))
    ⊎ (OverflowsAfter net limit room history × (text ≡ too_large_line))
    ⊎ (CheckOverflowsAfter net limit room history × (text ≡ too_large_line))

abbrev pub AnswersRun : Bool → Group → Price → NetView → ℕ → ℕ → List Event → Verdict → List ℕ → Type 0
AnswersRun counts name price net limit room history Done text = IsCertificateOfRun counts name price net limit room
    history text
AnswersRun counts name price net limit room history No text = IsNoOfRun net limit room history text

-- a text that was to be written of a run
abbrev pub IsDueAfter : Group → Price → NetView → ℕ → ℕ → List Event → List ℕ → Type 0
IsDueAfter name price net limit room history text = IsTextOfRun name price net limit room history text
    ⊎ IsNoOfRun net limit room history text

-- What is written of a run to standard output: the answer; or nothing where memory is refused to the check of a settled
-- run; or a prefix of the answer where the device fails.
abbrev pub TellsRun : Bool → Group → Price → NetView → ℕ → ℕ → List Event → Option (List ℕ) → Option (List ℕ)
    → Result Verdict EngineFault → Type 0
TellsRun counts name price net limit room history old new (Ok verdict) = (text : List ℕ)
    × AnswersRun counts name price net limit room history verdict text × Appends old new text
TellsRun counts name price net limit room history old new (Err engine.Memory) =
    ((flow : FlowView) × IsAudit net limit room flow history) × Keeps old new
TellsRun counts name price net limit room history old new (Err engine.Device) = (text : List ℕ)
    × IsDueAfter name price net limit room history text × ReceivedPrefix old new text
TellsRun counts name price net limit room history old new (Err _) = ⊥

-- ---- what is written to the trace and to standard output: `before` and `after` are the trace's bytes

abbrev pub IsUntouched : Option (List ℕ) → Option (List ℕ) → Option (List ℕ) → Option (List ℕ) → Type 0
IsUntouched before after old new = Keeps before after × Keeps old new

-- a history was written whole, and then what its run answers
abbrev pub TracesRun : Bool → Group → Price → NetView → ℕ → ℕ → Option (List ℕ) → Option (List ℕ) → Option (List ℕ)
    → Option (List ℕ) → Result Verdict EngineFault → Type 0
TracesRun counts name price net limit room before after old new result = (history : List Event)
    × Appends before after (trace_text history) × TellsRun counts name price net limit room history old new result

-- the device of the trace failed: it has a prefix of the trace of some run, and standard output has nothing
abbrev pub CutsTrace : NetView → ℕ → ℕ → Option (List ℕ) → Option (List ℕ) → Option (List ℕ) → Option (List ℕ) → Type 0
CutsTrace net limit room before after old new = (history : List Event) × IsSomeHistory net limit room history
    × ReceivedPrefix before after (trace_text history) × Keeps old new

-- the answer for a net, and what was written with it
abbrev pub TracesNet : Bool → Group → Price → NetView → ℕ → ℕ → Option (List ℕ) → Option (List ℕ) → Option (List ℕ)
    → Option (List ℕ) → Result Verdict EngineFault → Type 0
TracesNet counts name price net limit room before after old new (Ok verdict) = TracesRun counts name price net limit
    room before after old new (Ok verdict)
TracesNet counts name price net limit room before after old new (Err engine.Memory) = IsUntouched before after old new
    ⊎ TracesRun counts name price net limit room before after old new (Err engine.Memory)
TracesNet counts name price net limit room before after old new (Err engine.Device) = CutsTrace net limit room before
    after old new ⊎ TracesRun counts name price net limit room before after old new (Err engine.Device)
TracesNet counts name price net limit room before after old new (Err engine.Thread) = IsUntouched before after old new
TracesNet counts name price net limit room before after old new (Err engine.Stranger) = IsUntouched before after old new
TracesNet counts name price net limit room before after old new (Err _) = ⊥

-- ---- the texts of a mine

-- The text answers for the mine of the texts, by the run with this history over its net: a certificate is one of the
-- mine, which proves its pit, and names the flow to which the history leads.
abbrev pub AnswersMineRun : MineTexts → Group → ℕ → ℕ → List Event → Verdict → List ℕ → Type 0
AnswersMineRun texts name limit room history Done text =
    IsCertificate texts name text
    × ((net : NetView) × IsNetBy texts name net
    × IsCertificateOfRun (counts_by name) name (price_wanted texts) net limit room history text)
AnswersMineRun texts name limit room history No text = (net : NetView) × IsNetBy texts name net
    × IsNoOfRun net limit room history text

-- nothing was written, or what was written is of a net of the mine
abbrev pub IsUntouchedOr : MineTexts → Group → ℕ → ℕ → Option (List ℕ) → Option (List ℕ) → Option (List ℕ)
    → Option (List ℕ) → EngineFault → Type 0
IsUntouchedOr texts name limit room before after old new fault =
    IsUntouched before after old new
    ⊎ ((net : NetView) × IsNetBy texts name net
    × TracesNet (counts_by name) name (price_wanted texts) net limit room before after old new (Err fault))

-- What is written at a fault: nothing, but where memory is refused after the run, or where the device of the trace or
-- of standard output fails.
abbrev pub TraceAtFault : MineTexts → Group → ℕ → ℕ → Option (List ℕ) → Option (List ℕ) → Option (List ℕ)
    → Option (List ℕ) → EngineFault → Type 0
TraceAtFault texts name limit room before after old new engine.Memory = IsUntouchedOr texts name limit room before
    after old new engine.Memory
TraceAtFault texts name limit room before after old new engine.Device = IsUntouchedOr texts name limit room before
    after old new engine.Device
TraceAtFault texts name limit room before after old new _ = IsUntouched before after old new

-- The answer, and what was written with it: where it is an answer of a run the trace has that run's whole history.
abbrev pub Traces : MineTexts → Group → ℕ → ℕ → Option (List ℕ) → Option (List ℕ) → Option (List ℕ) → Option (List ℕ)
    → Result Verdict EngineFault → Type 0
Traces texts name limit room before after old new (Ok verdict) =
    (history : List Event) × Appends before after (trace_text history)
    × ((text : List ℕ) × AnswersMineRun texts name limit room history verdict text × Appends old new text)
Traces texts name limit room before after old new (Err fault) = SolveFails texts name fault
    × TraceAtFault texts name limit room before after old new fault
