-- What a line of a trace says.
use Rattle.std.specs.Prelude.{ℕ, ℤ, pos, ◌^◌, cond, List, [], ◌∷◌, nat_lt, codes, Option, Some, None, Result, Ok}
use Rattle.std.specs.Str.{bytes_eq}
use Rattle.fixed_worth.specs.declared.numerals.NumberFault.{NumberFault}
use Rattle.fixed_worth.specs.Prelude.{plain_of, parts}
use Rattle.machine_law.specs.declared.events.Kind.{Kind}
use Rattle.machine_law.specs.declared.events.Kind.TheVariants.{ReadExcess, ReadCapacity, ReadLabel, TakeCapacity}
use Rattle.machine_law.specs.declared.events.Kind.TheVariants.{GiveCapacity, TakeExcess, GiveExcess, RaiseLabel}
use Rattle.machine_law.specs.declared.events.Event.{Event}

-- the kind of step that a word names
abbrev pub kind_of_word : List ℕ → Option Kind
kind_of_word word =
    cond (bytes_eq word (codes "RE")) (Some ReadExcess)
    (cond (bytes_eq word (codes "RC")) (Some ReadCapacity)
    (cond (bytes_eq word (codes "RL")) (Some ReadLabel)
    (cond (bytes_eq word (codes "TC")) (Some TakeCapacity)
    (cond (bytes_eq word (codes "GC")) (Some GiveCapacity)
    (cond (bytes_eq word (codes "TE")) (Some TakeExcess)
    (cond (bytes_eq word (codes "GE")) (Some GiveExcess)
    (cond (bytes_eq word (codes "RA")) (Some RaiseLabel)
    None)))))))

-- a number from 0 to 2 ^ 32 - 1
abbrev pub block_within : Result ℤ NumberFault → Option ℕ
block_within (Ok (pos k)) = cond (nat_lt k (2 ^ 32)) (Some k) None
block_within _ = None

-- the block that a word is in its one spelling
abbrev pub block_of_word : List ℕ → Option ℕ
block_of_word word = block_within (plain_of word)

-- the event of a kind and a block, where both are there
abbrev pub event_with : Option Kind → Option ℕ → Option Event
event_with (Some kind) (Some block) = Some (record { block = block; kind = kind })
event_with _ _ = None

-- two words, a kind and a block, say an event
abbrev pub event_of_words : List (List ℕ) → Option Event
event_of_words (kind ∷ block ∷ []) = event_with (kind_of_word kind) (block_of_word block)
event_of_words _ = None

-- the event that a line says, whose words single spaces (32) divide
abbrev pub event_of : List ℕ → Option Event
event_of line = event_of_words (parts 32 line)
