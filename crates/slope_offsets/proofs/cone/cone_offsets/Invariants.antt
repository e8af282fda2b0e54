use Rattle.std.proofs.Common.{◌≤◌, pos, length}
use Rattle.slope_offsets.specs.declared.pattern.TheConstants.{MOST_OFFSETS}
use Rattle.slope_offsets.specs.Gathering.{Collects, IsBelowLevel}
use Rattle.slope_offsets.proofs.cone.cone_offsets.Given as goal

abbrev pub invariant-loop-number : goal.invariant-loop-number
invariant-loop-number l = Collects (IsBelowLevel l.run l.rise (pos l.number)) l.offsets.items
    × (length l.offsets.items ≤ MOST_OFFSETS)
