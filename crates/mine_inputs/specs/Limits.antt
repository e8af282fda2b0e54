-- How long an input may be.
use Rattle.std.specs.Prelude.{ℕ, ◌<◌, ◌≤◌, ◌^◌, List, length}

-- the most bytes that an input may have: 2^32
abbrev pub longest_input : ℕ
longest_input = 2 ^ 32

-- the text has at most 2^32 bytes
abbrev pub IsWithinLimit : List ℕ → Type 0
IsWithinLimit text = length text ≤ longest_input

-- the text has more than 2^32 bytes
abbrev pub IsTooLong : List ℕ → Type 0
IsTooLong text = longest_input < length text
