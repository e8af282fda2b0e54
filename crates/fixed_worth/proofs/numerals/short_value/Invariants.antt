use Rattle.std.proofs.Common.{◌≡◌, ℕ, ◌+◌, ◌*◌, ◌^◌, ◌<◌, true, length, drop, get_or}
use Rattle.fixed_worth.specs.Numeral.{is_digit, value_of}
use Rattle.fixed_worth.proofs.numerals.short_value.Given as goal

-- what is read so far stands before what is left, has no more digits than were read, and was all digits
abbrev pub invariant-loop-b : goal.invariant-loop-b
invariant-loop-b l = record {
  whole : l.all * 10 ^ length (drop l.b-index l.text) + value_of (drop l.b-index l.text) ≡ value_of l.text;
  small : l.all < 10 ^ l.b-index;
  digits : (k : ℕ) → k < l.b-index → is_digit (get_or l.text k 0) ≡ true;
}
