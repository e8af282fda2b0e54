-- What one value of a TOML document reads as that has to be a number.
use Rattle.std.specs.Bool.{nat_le}
use Rattle.std.specs.Prelude.{ℕ, cond, ℤ, pos, Option, Some, None}
use Rattle.toml.specs.Data.{Data, as_integer}

-- A whole number from 0 to the most, and nothing else.
abbrev pub whole_upto : ℕ → Option ℤ → Option ℕ
whole_upto most (Some (pos n)) = cond (nat_le n most) (Some n) None
whole_upto most _ = None

-- What a value reads as that has to be a whole number from 0 to the most.
abbrev pub whole_value_within : ℕ → Data → Option ℕ
whole_value_within most d = whole_upto most (as_integer d)
