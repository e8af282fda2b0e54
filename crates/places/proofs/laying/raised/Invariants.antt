use Rattle.places.specs.Boxes.{AreRaised}
use Rattle.places.proofs.laying.raised.Given as goal

abbrev pub invariant-loop-offset : goal.invariant-loop-offset
invariant-loop-offset l = AreRaised l.fn.of l.fn.offsets l.offset-index l.deltas.items
