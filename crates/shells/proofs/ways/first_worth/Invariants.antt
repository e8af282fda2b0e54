use Rattle.std.proofs.Common.{◌≢◌, ℕ, ◌<◌, pos, get_or}
use Rattle.shells.specs.Prices.{worths_by}
use Rattle.shells.proofs.ways.first_worth.Given as goal

abbrev pub invariant-loop-i : goal.invariant-loop-i
invariant-loop-i l = (j : ℕ) → j < l.i → get_or (worths_by l.ways l.thousandths l.b) j (pos 0) ≢ l.worth
