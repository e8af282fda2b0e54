use Rattle.pit_production.proofs.Part.{treated_part_bounds}
use Rattle.pit_production.proofs.laws.the_pit_bounds_each_way.Goals as goal

pub returns : goal.returns
returns c = treated_part_bounds
