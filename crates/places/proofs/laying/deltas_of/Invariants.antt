use Rattle.std.proofs.Common.{map}
use Rattle.places.specs.Placed.{AreDeltas}
use Rattle.places.proofs.laying.deltas_of.Given as goal

abbrev pub invariant-loop-r : goal.invariant-loop-r
invariant-loop-r l = AreDeltas l.fn.of (map (λ v. v.items) l.fn.slopes) l.r l.starts.items l.deltas.items
