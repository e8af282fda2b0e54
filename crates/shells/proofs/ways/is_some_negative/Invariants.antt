use Rattle.std.proofs.Common.{◌≤ℤ◌, pos, take, All}
use Rattle.shells.specs.Prices.{WayView, number_at}
use Rattle.shells.proofs.ways.is_some_negative.Given as goal

abbrev pub invariant-loop-i : goal.invariant-loop-i
invariant-loop-i l = All (λ (way : WayView). pos 0 ≤ℤ number_at way.revenue l.b) (take l.i l.ways)
