use Rattle.std.proofs.Common.{◌≡◌, ◌^◌, ◌<◌, ◌≤◌}
use Rattle.fixed_worth.specs.Printed.{fixed_width, without_trailing_zeros}
use Rattle.fixed_worth.proofs.printing.trimmed_fraction.Given as goal

abbrev pub invariant-loop-digits : goal.invariant-loop-digits
invariant-loop-digits l = record {
  some : 0 < l.digits;
  below_one : l.digits < 10 ^ l.width;
  small : l.digits < 10 ^ 64;
  narrow : l.width ≤ l.places;
  less : l.digits ≤ l.fraction;
  same : without_trailing_zeros (fixed_width l.places l.fraction) ≡ without_trailing_zeros
      (fixed_width l.width l.digits);
}

abbrev pub decreases-loop-digits : goal.decreases-loop-digits
decreases-loop-digits l = l.digits
