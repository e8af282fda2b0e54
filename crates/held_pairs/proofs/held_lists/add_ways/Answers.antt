use Rattle.held_pairs.proofs.held_lists.add_ways.Goals as goal

pub loop-way-preserved : goal.loop-way-preserved
loop-way-preserved g c = record {
  added = c.in_ok-add_way.ensures.added c.args.pairs.now.items c.loop-way.invariant.added;
  few = c.in_ok-add_way.ensures.few;
}
