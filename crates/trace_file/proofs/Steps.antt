-- The steps of reading a trace, line by line.
use Rattle.fixed_worth.proofs.Common.{◌≡◌, ℕ, ◌+◌, ◌<◌, ◌≤◌, Bool, true, false, cond, ltb, List, [], ◌∷◌, ◌++◌, length}
use Rattle.fixed_worth.proofs.Common.{Option, Some, None, refl, sym, ap, ◌∙◌, arith, append_assoc, append-nil}
use Rattle.fixed_worth.proofs.Common.{length-append, codes, filter_map, cons_option, bytes_eq, nat_tests}
use Rattle.fixed_worth.proofs.Common.{bytes_eq-Decides, common_steps}
use Rattle.machine_law.specs.declared.events.Event.{Event}
use Rattle.machine_law.specs.declared.events.TheConstants.{MOST_EVENTS}
use Rattle.trace_file.specs.declared.trace_fault.TraceFault.{TraceFault}
use Rattle.trace_file.specs.declared.trace_fault.TraceFault.TheVariants.{Text, TooMany, NoMemory}
use Rattle.fixed_worth.specs.Text.{parts}
use Rattle.trace_file.specs.Prelude.{event_of, UnlessTraceMemory, events_of, trace_end_fault, event_fault}
use Rattle.trace_file.specs.Prelude.{trace_line_fault, trace_fault_after, fault_in, trace_fault_of, IsWritten}
use Rattle.fixed_worth.proofs.Parts.{some_part}
use Rattle.trace_file.proofs.RoundTrip.{after_line, read_is_written}

-- ---- the first line

head_line : (line : List ℕ) (ps : List (List ℕ)) → 0 < length ps
    → fault_in (line ∷ ps) ≡ cond (bytes_eq line (codes "PITTRACE 1")) (trace_fault_after 1 ps) (Some (Text 1))
head_line line [] h = absurd (omega arith)
head_line line (p ∷ ps) h = refl

head_by : (text line past : List ℕ) (t : Bool) → parts 10 text ≡ line ∷ parts 10 past
    → bytes_eq line (codes "PITTRACE 1") ≡ t → trace_fault_of text ≡ cond t (trace_fault_after 1 (parts 10 past))
    (Some (Text 1))
head_by text line past t e f = ap fault_in e ∙ head_line line (parts 10 past) (some_part 10 past)
    ∙ ap (λ (t : Bool). cond t (trace_fault_after 1 (parts 10 past)) (Some (Text 1))) f

pub no_head : (text line past : List ℕ) → parts 10 text ≡ line ∷ parts 10 past
    → bytes_eq line (codes "PITTRACE 1") ≡ false → trace_fault_of text ≡ Some (Text 1)
no_head text line past e f = head_by text line past false e f

-- ---- the lines after it

-- The events so far, and what is left of the text.
pub record Going (text left : List ℕ) (es : List Event) : Type 0 where
  pub fault : trace_fault_of text ≡ trace_fault_after (length es + 1) (parts 10 left)
  pub said : events_of text ≡ es ++ events_of left
  pub few : length es ≤ MOST_EVENTS

next_line : (text left line past : List ℕ) (es : List Event) → Going text left es → parts 10 left ≡ line ∷ parts 10 past
    → trace_fault_of text ≡ trace_line_fault (length es + 1) line (parts 10 past)
    (trace_fault_after (length es + 1 + 1) (parts 10 past))
next_line text left line past es g p = g.fault ∙ ap (trace_fault_after (length es + 1)) p
    ∙ after_line (length es + 1) line (parts 10 past) (some_part 10 past)

pub at_end : (text left line past : List ℕ) (es : List Event) (k : ℕ) → Going text left es → k ≡ length es + 2
    → parts 10 left ≡ line ∷ parts 10 past → bytes_eq line (codes "END") ≡ true
    → trace_fault_of text ≡ trace_end_fault (k + 1) (parts 10 past)
at_end text left line past es k g e p f =
    let n : length es + 1 + 2 ≡ k + 1 = omega (arith, e) in
    next_line text left line past es g p
    ∙ ap (λ (t : Bool). cond t (trace_end_fault (length es + 1 + 2) (parts 10 past))
    (event_fault (length es + 1) (event_of line) (trace_fault_after (length es + 1 + 1) (parts 10 past)))) f
    ∙ ap (λ (n : ℕ). trace_end_fault n (parts 10 past)) n

nothing_said : (k : ℕ) (ps : List (List ℕ)) → trace_end_fault k ps ≡ None → filter_map event_of ps ≡ []
nothing_said k [] h = refl
nothing_said k ([] ∷ []) h = refl
nothing_said k _ h = absurd cc

-- All of the text is read.
pub all_read : (text left line past : List ℕ) (es : List Event) (k : ℕ) → Going text left es → k ≡ length es + 2
    → parts 10 left ≡ line ∷ parts 10 past → bytes_eq line (codes "END") ≡ true
    → trace_end_fault (k + 1) (parts 10 past) ≡ None
    → (trace_fault_of text ≡ None) × (es ≡ events_of text) × IsWritten text es
all_read text left line past es k g e p f none = grind
    (arith, common_steps, at_end, bytes_eq-Decides, nothing_said, append-nil, read_is_written)

at_event : (text left line past : List ℕ) (es : List Event) → Going text left es
    → parts 10 left ≡ line ∷ parts 10 past → bytes_eq line (codes "END") ≡ false
    → trace_fault_of text ≡ event_fault (length es + 1) (event_of line)
    (trace_fault_after (length es + 1 + 1) (parts 10 past))
at_event text left line past es g p f =
    next_line text left line past es g p
    ∙ ap (λ (t : Bool). cond t (trace_end_fault (length es + 1 + 2) (parts 10 past))
    (event_fault (length es + 1) (event_of line) (trace_fault_after (length es + 1 + 1) (parts 10 past)))) f

pub no_event : (text left line past : List ℕ) (es : List Event) (k : ℕ) → Going text left es → k ≡ length es + 2
    → parts 10 left ≡ line ∷ parts 10 past → bytes_eq line (codes "END") ≡ false → event_of line ≡ None
    → trace_fault_of text ≡ Some (Text k)
no_event text left line past es k g e p f o =
    let n : length es + 1 + 1 ≡ k = omega (arith, e) in
    at_event text left line past es g p f
    ∙ ap (λ (o : Option Event). event_fault (length es + 1) o
    (trace_fault_after (length es + 1 + 1) (parts 10 past))) o ∙ ap (λ (n : ℕ). Some (Text n)) n

event_by : (text left line past : List ℕ) (es : List Event) (e : Event) (t : Bool) → Going text left es
    → parts 10 left ≡ line ∷ parts 10 past → bytes_eq line (codes "END") ≡ false → event_of line ≡ Some e
    → ltb MOST_EVENTS (length es + 1) ≡ t
    → trace_fault_of text ≡ cond t (Some TooMany) (trace_fault_after (length es + 1 + 1) (parts 10 past))
event_by text left line past es e t g p f o l =
    at_event text left line past es g p f
    ∙ ap (λ (o : Option Event). event_fault (length es + 1) o
    (trace_fault_after (length es + 1 + 1) (parts 10 past))) o
    ∙ ap (λ (t : Bool). cond t (Some TooMany) (trace_fault_after (length es + 1 + 1) (parts 10 past))) l

pub too_many : (text left line past : List ℕ) (es : List Event) (e : Event) → Going text left es
    → parts 10 left ≡ line ∷ parts 10 past → bytes_eq line (codes "END") ≡ false → event_of line ≡ Some e
    → length es ≡ MOST_EVENTS → trace_fault_of text ≡ Some TooMany
too_many text left line past es e g p f o l = event_by text left line past es e true g p f o (grind (arith, nat_tests))

pub goes_on : (text left line past : List ℕ) (es : List Event) (e : Event) → Going text left es
    → parts 10 left ≡ line ∷ parts 10 past → bytes_eq line (codes "END") ≡ false → event_of line ≡ Some e
    → length es < MOST_EVENTS → Going text past (es ++ (e ∷ []))
goes_on text left line past es e g p f o l =
    let more : length (es ++ (e ∷ [])) ≡ length es + 1 = length-append es (e ∷ []) in
    let said : events_of left ≡ e ∷ events_of past = ap (filter_map event_of) p
    ∙ ap (λ (o : Option Event). cons_option o (events_of past)) o in
    record {
      fault = event_by text left line past es e false g p f o (grind (arith, nat_tests))
          ∙ ap (λ (n : ℕ). trace_fault_after (n + 1) (parts 10 past)) (sym more);
      said = g.said ∙ ap (λ (xs : List Event). es ++ xs) said ∙ sym (append_assoc es (e ∷ []) (events_of past));
      few = omega (arith, more);
    }

-- A fault of the text is answered for any reason.
unless_memory : {P : Type 0} (e : TraceFault) → P → UnlessTraceMemory e P
unless_memory NoMemory h = tt
unless_memory _ h = h

pub stands : {P Q : Type 0} (e : TraceFault) → P → UnlessTraceMemory e P × (Q → P)
stands e h = (unless_memory e h, λ q. h)

pub anyway : {P Q : Type 0} → P → P × (Q → P)
anyway h = (h, λ q. h)
