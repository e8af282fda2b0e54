use Rattle.expanded_mine.proofs.NodePairs.{held_are}
use Rattle.expanded_mine.proofs.node_pairs.node_pairs_of.Goals as goal

pub returns-in-Some-of_nodes : goal.returns-in-Some-of_nodes
returns-in-Some-of_nodes c = held_are c.args.base c.args.periods c.args.waits.lag c.args.waits.pairs c.in-Some.nodes
    c.in-Some-of_nodes.pairs c.len-blocks.ensures.all c.in-Some.ensures c.len-nodes.ensures.all
    c.in-Some-of_nodes.ensures
