use Rattle.places.specs.Prelude.{gridded}
use Rattle.held_pairs.proofs.FewWays.{few_rests}
use Rattle.held_pairs.proofs.pairs.HeldPairs.of_grid.Goals as goal

pub invariant_of-pairs : goal.invariant_of-pairs
invariant_of-pairs c = few_rests (gridded c.args.grid) c.len-blocks.ensures.all
    (c.has_few_ways.ensures c.if-not-has_few_ways.false)
