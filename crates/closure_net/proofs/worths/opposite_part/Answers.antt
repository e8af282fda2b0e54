use Rattle.fixed_worth.proofs.Common.{◌<◌, length, arith, map, length-map}
use Rattle.ordered_group.specs.Amount.{zero_amount, minus, FitsPair}
use Rattle.ordered_group.proofs.Lists.{here_from_map}
use Rattle.closure_net.proofs.worths.opposite_part.Goals as goal

pub unreachable-requires : goal.unreachable-requires
unreachable-requires g c =
    let parts = g.G.OrderedGroup.parts_of in
    let items = c.args.worths.now in
    let here : c.args.b < length (map parts items) = omega (arith, c.requires.known, length-map items parts) in
    c.in-None.ensures (here_from_map parts (λ a. FitsPair (minus zero_amount a)) items c.args.b
    c.index-worths-b.result c.requires.known c.index-worths-b.is (c.requires.opposites c.args.b here))
