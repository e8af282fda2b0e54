use Rattle.held_pairs.proofs.ByRegion.{regions_own}
use Rattle.held_pairs.proofs.own_regions.column_regions.Goals as goal

pub returns-in-Ok : goal.returns-in-Ok
returns-in-Ok c = regions_own c.args.model.now c.args.count c.in-Ok.regions.items c.in-Ok.ensures
