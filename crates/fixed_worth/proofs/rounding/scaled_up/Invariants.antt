use Rattle.std.proofs.Common.{◌≡◌, ◌-◌, ◌*◌, ◌^◌, ◌<◌}
use Rattle.fixed_worth.proofs.rounding.scaled_up.Given as goal

abbrev pub invariant-loop-i : goal.invariant-loop-i
invariant-loop-i l = record {
  same : l.value * 10 ^ (l.k - l.i) ≡ l.m * 10 ^ l.k;
  small : l.value < 10 ^ 36;
}
