use Rattle.schedule_engines.specs.Choice.{AreListed, way_chosen}
use Rattle.schedule_engines.proofs.choice.ways_chosen.Given as goal

abbrev pub invariant-loop-b : goal.invariant-loop-b
invariant-loop-b l = AreListed l.b (way_chosen l.worths l.factor l.entries) l.ways.items
