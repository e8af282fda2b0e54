use Rattle.std.proofs.Common.{◌∙◌}
use Rattle.ordered_group.specs.Block.{scaled_block}
use Rattle.series_pits.proofs.Among.{net_made}
use Rattle.series_pits.proofs.part_pits.net_among.Goals as goal

pub returns : goal.returns
returns c =
    let small = c.in-Ok.small in
    net_made scaled_block c.args.predecessors.now.pairs small.pairs c.args.prices.now c.args.kept.now c.args.factor
    small.blocks c.as_slice.result.now c.of_worths.result
    c.in-Ok.ensures.0 c.in-Ok.ensures.1 (c.as_slice.ensures.value ∙ c.in-Ok-worths_among.ensures) c.of_worths.ensures
