use Rattle.std.proofs.Common.{◌≤◌, pos, ◌-ℤ◌, length}
use Rattle.slope_offsets.specs.declared.pattern.TheConstants.{MOST_OFFSETS}
use Rattle.slope_offsets.specs.Gathering.{Collects, IsBelowRow}
use Rattle.slope_offsets.proofs.cone.add_level.Given as goal

abbrev pub invariant-loop-step : goal.invariant-loop-step
invariant-loop-step l = Collects
    (IsBelowRow l.level.run l.level.rise (pos l.level.number) (pos l.step -ℤ pos l.level.reach)) l.offsets.items
    × (length l.offsets.items ≤ MOST_OFFSETS)
