-- What the text of a trace says, and what is wrong with it.
use Rattle.std.specs.Prelude.{ℕ, ◌+◌, cond, List, [], ◌∷◌, length, nat_lt, codes, Option, Some, None}
use Rattle.std.specs.List.{filter_map}
use Rattle.std.specs.Str.{bytes_eq}
use Rattle.fixed_worth.specs.declared.limits.TheConstants.{LINE_BYTES}
use Rattle.machine_law.specs.declared.events.Event.{Event}
use Rattle.machine_law.specs.declared.events.TheConstants.{MOST_EVENTS}
use Rattle.trace_file.specs.declared.trace_fault.TraceFault.{TraceFault}
use Rattle.trace_file.specs.declared.trace_fault.TraceFault.TheVariants.{Text, Truncated, TooMany, NoMemory}
use Rattle.fixed_worth.specs.Text.{parts}
use Rattle.trace_file.specs.Lines.{event_of}
pub use Rattle.fixed_worth.specs.FaultText.{at_line}

-- the events that the lines of a text say
abbrev pub events_of : List ℕ → List Event
events_of text = filter_map event_of (parts 10 text)

-- a text that ends before its line END does: what stands after the last line feed is line k, and only its length is
-- looked at
abbrev pub rest_fault : ℕ → List ℕ → TraceFault
rest_fault k rest = cond (nat_lt LINE_BYTES (length rest)) (Text k) Truncated

-- after END and its line feed nothing may stand; what stands there is line k
abbrev pub trace_end_fault : ℕ → List (List ℕ) → Option TraceFault
trace_end_fault k ([] ∷ []) = None
trace_end_fault k _ = Some (Text k)

-- the fault of line k + 1 as event number k, or else of what stands after it
abbrev pub event_fault : ℕ → Option Event → Option TraceFault → Option TraceFault
event_fault k None past = Some (Text (k + 1))
event_fault k (Some e) past = cond (nat_lt MOST_EVENTS k) (Some TooMany) past

-- the fault of line k + 1, which is END or event number k, or else of what stands after it
abbrev pub trace_line_fault : ℕ → List ℕ → List (List ℕ) → Option TraceFault → Option TraceFault
trace_line_fault k line after past = cond (bytes_eq line (codes "END")) (trace_end_fault (k + 2) after)
    (event_fault k (event_of line) past)

-- the first fault after k lines, of which the first is the head of the trace and the others are events
abbrev pub trace_fault_after : ℕ → List (List ℕ) → Option TraceFault
trace_fault_after k [] = Some Truncated
trace_fault_after k (rest ∷ []) = Some (rest_fault (k + 1) rest)
trace_fault_after k (line ∷ next ∷ more) = trace_line_fault k line (next ∷ more)
    (trace_fault_after (k + 1) (next ∷ more))

-- the first fault of the parts of a text between its line feeds
abbrev pub fault_in : List (List ℕ) → Option TraceFault
fault_in [] = Some Truncated
fault_in (rest ∷ []) = Some (rest_fault 1 rest)
fault_in (line ∷ next ∷ more) = cond (bytes_eq line (codes "PITTRACE 1")) (trace_fault_after 1 (next ∷ more))
    (Some (Text 1))

-- the first fault of a text, line by line
abbrev pub trace_fault_of : List ℕ → Option TraceFault
trace_fault_of text = fault_in (parts 10 text)

-- want of memory says nothing of the text
abbrev pub UnlessTraceMemory : TraceFault → Type 0 → Type 0
UnlessTraceMemory NoMemory P = Unit {0}
UnlessTraceMemory _ P = P

-- the fault's name, and the line's number in parentheses where there is one
abbrev pub trace_fault_text : TraceFault → List ℕ
trace_fault_text (Text k) = at_line (codes "Text") k
trace_fault_text Truncated = codes "Truncated"
trace_fault_text TooMany = codes "TooMany"
trace_fault_text NoMemory = codes "NoMemory"
