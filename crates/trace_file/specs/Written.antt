-- The one text of a list of events.
use Rattle.std.specs.Prelude.{ℕ, List, [], ◌∷◌, ◌++◌, map, codes}
use Rattle.std.specs.Fmt.{decimal}
use Rattle.fixed_worth.specs.Laws.{with_line_feeds}
use Rattle.machine_law.specs.declared.events.Kind.{Kind}
use Rattle.machine_law.specs.declared.events.Kind.TheVariants.{ReadExcess, ReadCapacity, ReadLabel, TakeCapacity}
use Rattle.machine_law.specs.declared.events.Kind.TheVariants.{GiveCapacity, TakeExcess, GiveExcess, RaiseLabel}
use Rattle.machine_law.specs.declared.events.Event.{Event}

-- the word of a kind of step
abbrev pub kind_word : Kind → List ℕ
kind_word ReadExcess = codes "RE"
kind_word ReadCapacity = codes "RC"
kind_word ReadLabel = codes "RL"
kind_word TakeCapacity = codes "TC"
kind_word GiveCapacity = codes "GC"
kind_word TakeExcess = codes "TE"
kind_word GiveExcess = codes "GE"
kind_word RaiseLabel = codes "RA"

-- the line of an event: the word of its kind, a space (32) and the block
abbrev pub event_line : Event → List ℕ
event_line e = kind_word e.kind ++ (32 ∷ decimal e.block)

-- the text of a trace: a line feed after each line
abbrev pub trace_text : List Event → List ℕ
trace_text es = with_line_feeds (codes "PITTRACE 1" ∷ (map event_line es ++ (codes "END" ∷ [])))
