-- The word that says for how many steps there is room in a history.
use Rattle.std.specs.Prelude.{ℕ, List, Option}
use Rattle.machine_law.specs.declared.events.TheConstants.{MOST_EVENTS}
use Rattle.option_words.specs.WholeNumbers.{whole_within}

-- the room that a word names, if it names one: a whole number from 1 to `MOST_EVENTS`
abbrev pub room_of : List ℕ → Option ℕ
room_of word = whole_within word 1 MOST_EVENTS
