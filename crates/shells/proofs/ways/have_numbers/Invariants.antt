use Rattle.std.proofs.Common.{take, All}
use Rattle.shells.specs.Prices.{HasNumbers}
use Rattle.shells.proofs.ways.have_numbers.Given as goal

abbrev pub invariant-loop-i : goal.invariant-loop-i
invariant-loop-i l = All (HasNumbers l.blocks) (take l.i l.ways)
