use Rattle.closure_net.specs.Network.{holds_of}
use Rattle.closure_net.proofs.NetSums.{greatest_is_best}
use Rattle.prec_file.specs.Rests.{has_pair}
use Rattle.shells.specs.Series.{mine_at}
use Rattle.shells.proofs.Shells.{net_of_over}
use Rattle.shells.proofs.Rising.{best_is_nested}
use Rattle.shells.proofs.laws.accepted_pits_are_nested.Goals as goal

-- the laws of a group whose values may go to other threads hold wherever one runs, and so here
pub returns : goal.returns
returns g c pairs table j k a d known le a_is a_over d_is d_over =
    let lower = g.met.G.SizeGroup g.world.𝓛 g.world.𝓜 g.world.𝓡 ((λ s x. x), (λ x. x), (λ x. x), λ x. x) in
    let higher = g.met.H.SizeGroup g.world.𝓛 g.world.𝓜 g.world.𝓡 ((λ s x. x), (λ x. x), (λ x. x), λ x. x) in
    let a_best = greatest_is_best g.G.OrderedGroup.block_parts lower.orders_sets (mine_at pairs table j) a.net
    (holds_of a.pit) (net_of_over g.G.OrderedGroup.block_parts pairs table j a.net a_over) a_is.greatest in
    let d_best = greatest_is_best g.H.OrderedGroup.block_parts higher.orders_sets (mine_at pairs table k) d.net
    (holds_of d.pit) (net_of_over g.H.OrderedGroup.block_parts pairs table k d.net d_over) d_is.greatest in
    best_is_nested (has_pair pairs) table j k (holds_of a.pit) (holds_of d.pit) known le a_best d_best
