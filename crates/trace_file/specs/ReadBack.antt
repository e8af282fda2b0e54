-- A trace has one text, and is read back from it.
use Rattle.std.specs.Prelude.{◌≡◌, ℕ, ◌^◌, ◌<◌, ◌≤◌, List, length, All, None}
use Rattle.machine_law.specs.declared.events.Event.{Event}
use Rattle.machine_law.specs.declared.events.TheConstants.{MOST_EVENTS}
use Rattle.trace_file.specs.Faults.{trace_fault_of, events_of}
use Rattle.trace_file.specs.Written.{trace_text}

-- the text is read without a fault, as these events
pub record IsTraceReadBack (text : List ℕ) (es : List Event) : Type 0 where
  pub sound : trace_fault_of text ≡ None
  pub same : events_of text ≡ es

-- what is written of events, at most as many as a trace has, whose blocks are numbers of 32 bits, is read back
abbrev pub WrittenIsRead : Type 0
WrittenIsRead = (es : List Event) → length es ≤ MOST_EVENTS → All (λ e. e.block < 2 ^ 32) es
    → IsTraceReadBack (trace_text es) es

-- a text without a fault is the text of the events that it says, and these can be written
pub record IsWritten (text : List ℕ) (es : List Event) : Type 0 where
  pub spelled : text ≡ trace_text es
  pub few : length es ≤ MOST_EVENTS
  pub fit : All (λ e. e.block < 2 ^ 32) es

abbrev pub ReadIsWritten : Type 0
ReadIsWritten = (text : List ℕ) → trace_fault_of text ≡ None → IsWritten text (events_of text)
