-- The words that name a whole number.
use Rattle.std.specs.Prelude.{ℕ, ◌&&◌, cond, List, nat_le, Option, Some, None, Result, Ok, Err}
use Rattle.fixed_worth.specs.declared.numerals.NumberFault.{NumberFault}
use Rattle.fixed_worth.specs.Numeral.{whole_of}

-- a number that was read, where it is one from `least` to `most`
abbrev pub number_within : Result ℕ NumberFault → ℕ → ℕ → Option ℕ
number_within (Ok k) least most = cond (nat_le least k && nat_le k most) (Some k) None
number_within (Err e) least most = None

-- the whole number from `least` to `most` that a word names, if it names one
abbrev pub whole_within : List ℕ → ℕ → ℕ → Option ℕ
whole_within word least most = number_within (whole_of word) least most
