-- What is written is read back, and what is read was written so.
use Rattle.fixed_worth.proofs.Common.{◌≡◌, ℕ, ◌+◌, ◌<◌, ◌≤◌, ◌^◌, Bool, true, false, cond, ltb, List, [], ◌∷◌, ◌++◌}
use Rattle.fixed_worth.proofs.Common.{length, Option, Some, None, refl, sym, ap, ◌∙◌, subst, arith, append_assoc}
use Rattle.fixed_worth.proofs.Common.{length-append, All, map, codes, list_all, filter_map, join_with_byte, bytes_eq}
use Rattle.fixed_worth.proofs.Common.{and_from, nat_tests, bytes_eq-Decides, All-head, All-tail, All-nil, All-cons}
use Rattle.fixed_worth.proofs.Common.{join_with_byte-slice_split, common_steps}
use Rattle.fixed_worth.specs.Prelude.{with_line_feeds, parts}
use Rattle.fixed_worth.proofs.Joined.{is_one_line}
use Rattle.machine_law.specs.declared.events.Event.{Event}
use Rattle.machine_law.specs.declared.events.TheConstants.{MOST_EVENTS}
use Rattle.trace_file.specs.declared.trace_fault.TraceFault.{TraceFault}
use Rattle.trace_file.specs.declared.trace_fault.TraceFault.TheVariants.{Text, TooMany}
use Rattle.trace_file.specs.Prelude.{event_of, event_line, trace_text, events_of, trace_end_fault, event_fault}
use Rattle.trace_file.specs.Prelude.{trace_line_fault, trace_fault_after, fault_in, trace_fault_of, IsTraceReadBack}
use Rattle.trace_file.specs.Prelude.{IsWritten}
use Rattle.trace_file.proofs.Parts.{lines_cut}
use Rattle.trace_file.proofs.EventLines.{event_read, event_is_one_line, event_is_no_end, event_spelled}

abbrev pub Fits : Event → Type 0
Fits e = e.block < 2 ^ 32

-- What stands after the events of a trace.
abbrev last_parts : List (List ℕ)
last_parts = codes "END" ∷ [] ∷ []

-- ---- what is written is read

pub after_line : (k : ℕ) (line : List ℕ) (ps : List (List ℕ)) → 0 < length ps
    → trace_fault_after k (line ∷ ps) ≡ trace_line_fault k line ps (trace_fault_after (k + 1) ps)
after_line k line [] h = absurd (omega arith)
after_line k line (next ∷ more) h = refl

event_sound : (k : ℕ) (e : Event) (ps : List (List ℕ)) (past : Option TraceFault) → k ≤ MOST_EVENTS → Fits e
    → past ≡ None → trace_line_fault k (event_line e) ps past ≡ None
event_sound k e ps past few fits none = grind (arith, common_steps, ltb, event_is_no_end, event_read)

events_sound : (k : ℕ) (es : List Event) → k + length es ≤ MOST_EVENTS + 1 → All Fits es
    → trace_fault_after k (map event_line es ++ last_parts) ≡ None
events_sound k [] few fit = refl
events_sound k (e ∷ es) few fit = grind (
  arith,
  common_steps,
  last_parts,
  after_line,
  length-append,
  event_sound,
  All-head,
  Fits,
  All-tail,
  (events_sound (k + 1) es (omega arith) (All-tail Fits e es fit)),
)

events_said : (es : List Event) → All Fits es → filter_map event_of (map event_line es ++ last_parts) ≡ es
events_said [] fit = refl
events_said (e ∷ es) fit = grind
    (arith, common_steps, last_parts, event_read, All-head, Fits, All-tail, (events_said es (All-tail Fits e es fit)))

lines_whole : (es : List Event) → All Fits es → list_all is_one_line (map event_line es ++ (codes "END" ∷ [])) ≡ true
lines_whole [] fit = refl
lines_whole (e ∷ es) fit =
    and_from (is_one_line (event_line e)) (list_all is_one_line (map event_line es ++ (codes "END" ∷ [])))
    (event_is_one_line e (All-head Fits e es fit)) (lines_whole es (All-tail Fits e es fit))

parts_are : (es : List Event) → All Fits es
    → parts 10 (trace_text es) ≡ codes "PITTRACE 1" ∷ (map event_line es ++ last_parts)
parts_are es fit = grind (arith, common_steps, lines_cut, lines_whole, append_assoc)

head_sound : (ps : List (List ℕ)) → 0 < length ps → fault_in (codes "PITTRACE 1" ∷ ps) ≡ trace_fault_after 1 ps
head_sound [] h = absurd (omega arith)
head_sound (next ∷ more) h = refl

pub written_is_read : (es : List Event) → length es ≤ MOST_EVENTS → All Fits es → IsTraceReadBack (trace_text es) es
written_is_read es few fit =
    let ps = map event_line es ++ last_parts in
    record {
      sound = ap fault_in (parts_are es fit)
          ∙ head_sound ps (omega (arith, length-append (map event_line es) last_parts))
          ∙ events_sound 1 es (omega arith) fit;
      same = ap (filter_map event_of) (parts_are es fit) ∙ events_said es fit;
    }

-- ---- what is read was written so

-- Of parts after k lines, and of the events that they say.
record AreWritten (k : ℕ) (ps : List (List ℕ)) (es : List Event) : Type 0 where
  spelled : join_with_byte 10 ps ≡ with_line_feeds (map event_line es ++ (codes "END" ∷ []))
  few : k + length es ≤ MOST_EVENTS + 1
  fit : All Fits es

ended : (k j : ℕ) (ps : List (List ℕ)) → k ≤ MOST_EVENTS + 1 → trace_end_fault j ps ≡ None
    → AreWritten k (codes "END" ∷ ps) (filter_map event_of (codes "END" ∷ ps))
ended k j ([] ∷ []) few h = record { spelled = refl; few = omega arith; fit = All-nil Fits }
ended k j _ few h = absurd cc

join_more : (line : List ℕ) (ps : List (List ℕ)) → 0 < length ps
    → join_with_byte 10 (line ∷ ps) ≡ line ++ (10 ∷ join_with_byte 10 ps)
join_more line [] h = absurd (omega arith)
join_more line (p ∷ ps) h = refl

one_more : (k : ℕ) (line : List ℕ) (e : Event) (ps : List (List ℕ)) → 0 < length ps → event_of line ≡ Some e
    → AreWritten (k + 1) ps (filter_map event_of ps) → AreWritten k (line ∷ ps) (filter_map event_of (line ∷ ps))
one_more k line e ps some said w = grind (arith, common_steps, event_spelled, join_more, All-cons, Fits)

said_by : (k : ℕ) (line : List ℕ) (ps : List (List ℕ)) (o : Option Event) (t : Bool) → 0 < length ps
    → event_of line ≡ o → ltb MOST_EVENTS k ≡ t
    → (trace_fault_after (k + 1) ps ≡ None → k + 1 ≤ MOST_EVENTS + 1 → AreWritten (k + 1) ps (filter_map event_of ps))
    → event_fault k o (trace_fault_after (k + 1) ps) ≡ None
    → AreWritten k (line ∷ ps) (filter_map event_of (line ∷ ps))
said_by k line ps None t some said few ih h = absurd cc
said_by k line ps (Some e) true some said few ih h = absurd (let z : Some TooMany ≡ None = rw few at h in cc)
said_by k line ps (Some e) false some said few ih h = one_more k line e ps some said
    (ih (rw few at h) (grind (arith, nat_tests)))

line_by : (k : ℕ) (line : List ℕ) (ps : List (List ℕ)) (t : Bool) → (t ≡ true → line ≡ codes "END")
    → k ≤ MOST_EVENTS + 1 → 0 < length ps
    → (trace_fault_after (k + 1) ps ≡ None → k + 1 ≤ MOST_EVENTS + 1 → AreWritten (k + 1) ps (filter_map event_of ps))
    → cond t (trace_end_fault (k + 2) ps) (event_fault k (event_of line) (trace_fault_after (k + 1) ps)) ≡ None
    → AreWritten k (line ∷ ps) (filter_map event_of (line ∷ ps))
line_by k line ps true is few some ih h = subst (λ (l : List ℕ). AreWritten k (l ∷ ps) (filter_map event_of (l ∷ ps)))
    (sym (is refl)) (ended k (k + 2) ps few h)
line_by k line ps false is few some ih h = said_by k line ps (event_of line) (ltb MOST_EVENTS k) some refl refl ih h

after_written : (k : ℕ) (ps : List (List ℕ)) → k ≤ MOST_EVENTS + 1 → trace_fault_after k ps ≡ None
    → AreWritten k ps (filter_map event_of ps)
after_written k (line ∷ next ∷ more) few h =
    line_by k line (next ∷ more) (bytes_eq line (codes "END")) (bytes_eq-Decides line (codes "END")).0 few
    (omega arith) (λ none l. after_written (k + 1) (next ∷ more) l none) h
after_written k _ few h = absurd cc

head_by : (line : List ℕ) (ps : List (List ℕ)) (t : Bool) → (t ≡ true → line ≡ codes "PITTRACE 1") → 0 < length ps
    → cond t (trace_fault_after 1 ps) (Some (Text 1)) ≡ None
    → IsWritten (join_with_byte 10 (line ∷ ps)) (filter_map event_of (line ∷ ps))
head_by line ps true is some h =
    let w = after_written 1 ps (omega arith) h in
    subst (λ (l : List ℕ). IsWritten (join_with_byte 10 (l ∷ ps)) (filter_map event_of (l ∷ ps))) (sym (is refl))
    (record {
      spelled = join_more (codes "PITTRACE 1") ps some ∙ ap (λ (t : List ℕ). codes "PITTRACE 1" ++ (10 ∷ t)) w.spelled;
      few = omega (arith, w.few);
      fit = w.fit;
    })
head_by line ps false is some h = absurd cc

all_written : (ps : List (List ℕ)) → fault_in ps ≡ None → IsWritten (join_with_byte 10 ps) (filter_map event_of ps)
all_written (line ∷ next ∷ more) h = head_by line (next ∷ more) (bytes_eq line (codes "PITTRACE 1"))
    (bytes_eq-Decides line (codes "PITTRACE 1")).0 (omega arith) h
all_written _ h = absurd cc

pub read_is_written : (text : List ℕ) → trace_fault_of text ≡ None → IsWritten text (events_of text)
read_is_written text h = subst (λ (t : List ℕ). IsWritten t (events_of text)) (join_with_byte-slice_split 10 text)
    (all_written (parts 10 text) h)
