-- From an audited run to what is written of it.
use Rattle.fixed_worth.proofs.Common.{◌≡◌, ℕ, Bool, List, refl, sym, subst, Option, Result, Ok, Err, inl, inr, Appends}
use Rattle.fixed_worth.proofs.Common.{MatchResult}
use Rattle.counted_devices.specs.Device.{ReceivedPrefix}
use Rattle.ordered_group.specs.declared.groups.Group.{Group}
use Rattle.closure_net.specs.Network.{NetView, FlowView}
use Rattle.machine_law.specs.declared.events.Event.{Event}
use Rattle.workers.specs.Auditing.{IsSomeHistory, IsAudit, AuditFaultStands}
use Rattle.workers.specs.declared.solving.SolveFault.TheVariants.{Unsettled, TooLarge, NoMemory}
use Rattle.workers.specs.declared.auditing.AuditEnd.{AuditEnd}
use Rattle.workers.specs.declared.auditing.AuditEnd.TheVariants.{NoFlow, HistoryFull}
use Rattle.trace_file.specs.Written.{trace_text}
use Rattle.check_pit.specs.Checks.{IsSound}
use Rattle.check_pit.specs.declared.pit_fault.PitFault.{PitFault}
use Rattle.certificate_file.specs.declared.header.Price.{Price}
use Rattle.check_engines.specs.declared.judgement.Verdict.{Verdict}
use Rattle.engine_faults.specs.declared.engine_fault.EngineFault.{EngineFault}
use Rattle.engine_faults.specs.declared.engine_fault.EngineFault.TheVariants as engine
use Rattle.solve_engines.specs.Prelude.{IsRefusedFlow, SendsCertificate, SendsLine, certificate_text}
use Rattle.check_engines.proofs.Answered.{keeps_self}
use Rattle.solve_engines.proofs.RefusedRuns.{refused_for_size}
use Rattle.traced_engine.specs.TracedRuns.{CheckOverflowsAfter, IsNoOfRun, TellsRun, TracesNet, no_flow_line}

-- ---- histories

pub history_of : (net : NetView) (limit room : ℕ) (flow : FlowView) (history : List Event)
    → IsAudit net limit room flow history → IsSomeHistory net limit room history
history_of net limit room flow history is = (is.state, is.is_history)

-- a line without a certificate is of a history
no_is_of_history : (net : NetView) (limit room : ℕ) (history : List Event) (text : List ℕ)
    → IsNoOfRun net limit room history text → IsSomeHistory net limit room history
no_is_of_history net limit room history text (inl h) = (h.0.state, h.0.is_history)
no_is_of_history net limit room history text (inr (inl h)) = (h.0.state, h.0.is_history)
no_is_of_history net limit room history text (inr (inr (inl h))) = (h.0.state, h.0.is_history)
no_is_of_history net limit room history text (inr (inr (inr h))) = (h.0.audit.state, h.0.audit.is_history)

-- ---- the check of a run's pit

-- what the source reaches in the flow of a settled run is refused for sums that don't fit, and nothing else
pub check_overflows : (net : NetView) (limit room : ℕ) (flow : FlowView) (history : List Event) (fault : PitFault)
    → IsAudit net limit room flow history → IsRefusedFlow net flow fault → CheckOverflowsAfter net limit room history
check_overflows net limit room flow history fault audit refused =
    let size = refused_for_size net flow fault audit.settles.solved refused in
    record {
      flow = flow;
      audit = audit;
      pit = size.pit;
      reached = size.reached;
      of_net = size.of_net;
      stands =
          size.stands;
    }

-- ---- what is written to standard output

-- what was written of the flow, which a check has accepted
module _ (counts : Bool) (name : Group) (price : Price) (net : NetView) (limit room : ℕ) (history : List Event)
    (pit : List ℕ) (flow left : FlowView) (old new : Option (List ℕ)) (s : IsSound net flow pit) (same : flow ≡ left)
    (audit : IsAudit net limit room left history) where
  audited : IsAudit net limit room flow history
  audited = subst (λ (w : FlowView). IsAudit net limit room w history) (sym same) audit

  pub certified : (r : Result Verdict EngineFault) → SendsCertificate counts name price net pit flow old new r
      → TellsRun counts name price net limit room history old new r
  certified (Ok v) a = subst (λ (w : Verdict). TellsRun counts name price net limit room history old new (Ok w))
      (sym a.0) (
        a.1.0,
        record
            { certificate = record { pit = pit; flow = flow; read = a.1.1; sound = s }; audit = audited },
        a.1.2,
      )
  certified (Err e) a = subst (λ (w : EngineFault). TellsRun counts name price net limit room history old new (Err w))
      (sym a.0) (
        certificate_text name price net pit flow,
        inl
            (record { due = record { pit = pit; flow = flow; sound = s; spelled = refl }; audit = audited }),
        a.1,
      )

pub said_no : (counts : Bool) (name : Group) (price : Price) (net : NetView) (limit room : ℕ) (history : List Event)
    (line : List ℕ) (old new : Option (List ℕ)) (r : Result Verdict EngineFault)
    → IsNoOfRun net limit room history line → SendsLine line old new r
    → TellsRun counts name price net limit room history old new r
said_no counts name price net limit room history line old new (Ok v) h a = subst
    (λ (w : Verdict). TellsRun counts name price net limit room history old new (Ok w)) (sym a.0) (line, h, a.1)
said_no counts name price net limit room history line old new (Err e) h a = subst
    (λ (w : EngineFault). TellsRun counts name price net limit room history old new (Err w)) (sym a.0)
    (line, inr h, a.1)

-- ---- what is written to both

-- the history was written, and then what its run answers
module _ (counts : Bool) (name : Group) (price : Price) (net : NetView) (limit room : ℕ) (history slice : List Event)
    (before after old new : Option (List ℕ)) (same : slice ≡ history) where
  whole : (r : Result Verdict EngineFault) → Appends before after (trace_text history)
      → TellsRun counts name price net limit room history old new r
      → TracesNet counts name price net limit room before after old new r
  whole (Ok v) sent h = (history, sent, h)
  whole (Err engine.Memory) sent h = inr (history, sent, h)
  whole (Err engine.Device) sent h = inr (history, sent, h)
  whole (Err _) sent h = absurd h

  pub traced : (r : Result Verdict EngineFault) → Appends before after (trace_text slice)
      → TellsRun counts name price net limit room history old new r
      → TracesNet counts name price net limit room before after old new r
  traced r sent h = whole r (subst (λ (xs : List Event). Appends before after (trace_text xs)) same sent) h

-- the device of the trace failed
pub trace_cut : (counts : Bool) (name : Group) (price : Price) (net : NetView) (limit room : ℕ)
    (history slice : List Event) (before after old : Option (List ℕ)) → IsSomeHistory net limit room history
    → slice ≡ history → ReceivedPrefix before after (trace_text slice)
    → TracesNet counts name price net limit room before after old old (Err engine.Device)
trace_cut counts name price net limit room history slice before after old some same prefix = inl (
  history,
  some,
  subst (λ (xs : List Event). ReceivedPrefix before after (trace_text xs)) same prefix,
  keeps_self
      old,
)

-- a run without a flow: the line that says why is one of its history, or nothing is written
module _ (counts : Bool) (name : Group) (price : Price) (net : NetView) (workers limit room : ℕ) (why : AuditEnd)
    (history : List Event) (before old : Option (List ℕ))
    (stands : AuditFaultStands net workers limit room why history) where
  abbrev Ends : Result (List ℕ) EngineFault → Type 0
  Ends r = MatchResult r (λ line. IsNoOfRun net limit room history line)
      (λ fault. TracesNet counts name price net limit room before before old old (Err fault))

  ended : (w : AuditEnd) → AuditFaultStands net workers limit room w history → Ends (no_flow_line w)
  ended HistoryFull h = inr (inl (h, refl))
  ended (NoFlow Unsettled) h = inl (h, refl)
  ended (NoFlow TooLarge) h = inr (inr (inl (h, refl)))
  ended (NoFlow NoMemory) h = inl (keeps_self before, keeps_self old)
  ended (NoFlow _) h = (keeps_self before, keeps_self old)

  pub unwritten : (fault : EngineFault) → no_flow_line why ≡ Err fault
      → TracesNet counts name price net limit room before before old old (Err fault)
  unwritten fault e = subst Ends e (ended why stands)

  module _ (line : List ℕ) (slice : List Event) (after : Option (List ℕ)) (is : no_flow_line why ≡ Ok line)
      (same : slice ≡ history) where
    is_no : IsNoOfRun net limit room history line
    is_no = subst Ends is (ended why stands)

    pub cut : ReceivedPrefix before after (trace_text slice)
        → TracesNet counts name price net limit room before after old old (Err engine.Device)
    cut prefix = trace_cut counts name price net limit room history slice before after old
        (no_is_of_history net limit room history line is_no) same prefix

    pub told : (new : Option (List ℕ)) (r : Result Verdict EngineFault) → Appends before after (trace_text slice)
        → SendsLine line old new r → TracesNet counts name price net limit room before after old new r
    told new r sent a = traced counts name price net limit room history slice before after old new same r sent
        (said_no counts name price net limit room history line old new r is_no a)
