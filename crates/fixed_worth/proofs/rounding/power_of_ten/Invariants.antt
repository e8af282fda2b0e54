use Rattle.std.proofs.Common.{◌≡◌, ◌^◌}
use Rattle.fixed_worth.proofs.rounding.power_of_ten.Given as goal

abbrev pub invariant-loop-i : goal.invariant-loop-i
invariant-loop-i l = l.power ≡ 10 ^ l.i
