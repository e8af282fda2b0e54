use Rattle.fixed_worth.proofs.Common.{rules}
use Rattle.held_pairs.proofs.ByRegion.{regions_none}
use Rattle.held_pairs.proofs.own_regions.first_regions.Goals as goal

pub returns-in-Ok : goal.returns-in-Ok
returns-in-Ok c = regions_none c.args.model.now c.args.count c.len-blocks.result c.in-Ok.regions.items c.requires.none
    c.requires.some c.len-blocks.ensures.value (c.in-Ok.ensures.items_if_clones_equal (λ y h. search rules))
