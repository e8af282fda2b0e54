use Rattle.pit_production.proofs.Part.{part_bounds}
use Rattle.pit_production.proofs.laws.the_pit_bounds_all.Goals as goal

pub returns : goal.returns
returns c = part_bounds
