use Rattle.fixed_worth.proofs.Common.{◌≡◌, ◌-◌, ◌^◌, ◌<◌, ◌≤◌, true, take, list_all}
use Rattle.fixed_worth.specs.Numeral.{is_digit, value_of}
use Rattle.fixed_worth.proofs.first_number.digits_among.Given as goal

-- what is read so far is digits, and their value has no more of them than were read
abbrev pub invariant-loop-width : goal.invariant-loop-width
invariant-loop-width l = record {
  within : l.width ≤ l.most;
  digits : list_all is_digit (take l.width l.text) ≡ true;
  value : l.value ≡ value_of (take l.width l.text);
  small : l.value < 10 ^ l.width;
}

abbrev pub decreases-loop-width : goal.decreases-loop-width
decreases-loop-width l = l.most - l.width
