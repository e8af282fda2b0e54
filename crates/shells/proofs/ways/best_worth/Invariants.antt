use Rattle.std.proofs.Common.{◌≡◌, ◌≤◌, ◌*◌, ◌^◌, take, unsigned_abs}
use Rattle.shells.specs.Prices.{best_of, worths_by}
use Rattle.shells.proofs.ways.best_worth.Given as goal

abbrev pub invariant-loop-i : goal.invariant-loop-i
invariant-loop-i l = record {
  is : l.best ≡ best_of (take l.i (worths_by l.ways l.thousandths l.b));
  bound : unsigned_abs l.best ≤ 2 * 10 ^ 22;
}
