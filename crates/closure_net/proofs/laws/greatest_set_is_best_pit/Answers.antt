use Rattle.closure_net.proofs.NetSums.{greatest_is_best}
use Rattle.closure_net.proofs.laws.greatest_set_is_best_pit.Goals as goal

-- the laws of a group whose values may go to other threads hold wherever one runs, and so here
pub returns : goal.returns
returns g c =
    let laws = g.met.G.SizeGroup g.world.𝓛 g.world.𝓜 g.world.𝓡 ((λ s x. x), (λ x. x), (λ x. x), λ x. x) in
    greatest_is_best g.G.OrderedGroup.block_parts laws.orders_sets
