use Rattle.ordered_group.proofs.BlockSets.{blocks_from_sums}
use Rattle.ordered_group.proofs.laws.block_amounts_tell_worth.Goals as goal

pub returns : goal.returns
returns g c =
    let laws = g.met.G.OrderedGroup g.world.𝓛 g.world.𝓜 g.world.𝓡 ((λ s x. x), (λ x. x), (λ x. x), λ x. x) in
    blocks_from_sums g.G.OrderedGroup.block_parts g.G.OrderedGroup.set_worth laws.tells_worth
