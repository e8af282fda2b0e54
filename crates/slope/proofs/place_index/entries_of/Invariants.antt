use Rattle.slope.specs.Gathering.{AreEntries}
use Rattle.slope.proofs.place_index.entries_of.Given as goal

abbrev pub invariant-loop-block : goal.invariant-loop-block
invariant-loop-block l = AreEntries l.model l.block l.entries.items
