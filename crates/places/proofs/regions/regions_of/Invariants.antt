use Rattle.places.specs.Regions.{AreRegions}
use Rattle.places.proofs.regions.regions_of.Given as goal

abbrev pub invariant-loop-b : goal.invariant-loop-b
invariant-loop-b l = AreRegions l.fn.model l.fn.column l.fn.count l.b l.regions.items
