use Rattle.std.proofs.Common.{◌≡◌, take}
use Rattle.shell_engines.proofs.series_inputs.factors_from.Given as goal

abbrev pub invariant-loop-i : goal.invariant-loop-i
invariant-loop-i l = l.factors.items ≡ take l.i l.thousandths
