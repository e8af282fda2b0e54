use Rattle.places.specs.Prelude.{in_time, timed}
use Rattle.held_pairs.proofs.FewWays.{few_rests}
use Rattle.held_pairs.proofs.pairs.HeldPairs.of_nodes.Goals as goal

pub invariant_of-pairs : goal.invariant_of-pairs
invariant_of-pairs c = few_rests (in_time (timed c.args.nodes)) c.len-nodes.ensures.all
    (c.has_few_ways.ensures c.if-not-has_few_ways.false)
