use Rattle.places.specs.Boxes.{AreLows}
use Rattle.places.proofs.laying.lows_of.Given as goal

abbrev pub invariant-loop-b : goal.invariant-loop-b
invariant-loop-b l = AreLows l.fn.of l.fn.up l.fn.model l.b l.lows.items
