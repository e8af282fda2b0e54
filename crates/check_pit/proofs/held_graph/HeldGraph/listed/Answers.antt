use Rattle.check_pit.proofs.HeldNets.{net_listed, net_same}
use Rattle.check_pit.proofs.held_graph.HeldGraph.listed.Goals as goal

pub invariant_of-result : goal.invariant_of-result
invariant_of-result g c = net_listed c.args.graph c.predecessors-pairs.result.now c.worths-worths.ensures.net
    c.predecessors-pairs.ensures.blocks c.predecessors-pairs.ensures.pairs

pub returns : goal.returns
returns g c = net_same c.args.graph c.predecessors-pairs.result.now.pairs c.predecessors-pairs.ensures.pairs
