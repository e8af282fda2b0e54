use Rattle.std.proofs.Common.{◌≡◌, ◌+◌, ◌*◌, ◌^◌, ◌<◌, ◌++◌, length, drop}
use Rattle.fixed_worth.specs.Numeral.{value_of}
use Rattle.fixed_worth.proofs.decimals.mantissa.Given as goal

abbrev pub invariant-loop-b : goal.invariant-loop-b
invariant-loop-b l = record {
  whole : l.all * 10 ^ length (drop l.b-index l.fraction) + value_of (drop l.b-index l.fraction) ≡ value_of
      (l.whole ++ l.fraction);
  fits : l.all < 2 ^ 128;
}
