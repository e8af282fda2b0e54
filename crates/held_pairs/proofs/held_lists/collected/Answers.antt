use Rattle.fixed_worth.proofs.Common.{arith}
use Rattle.held_pairs.proofs.HeldLists.{lists_row}
use Rattle.held_pairs.proofs.held_lists.collected.Goals as goal

pub loop-b-preserved : goal.loop-b-preserved
loop-b-preserved g c = record {
  listed = lists_row (g.P.Precedence.shown c.args.held.now) c.loop-b.b c.loop-b.pairs.items c.add_ways.new.pairs.items
      c.len-b-end.ensures.all (omega (arith, c.loop-b-test.true, c.len-b-end.ensures.is)) c.loop-b.invariant.listed
      c.in_ok-add_ways.ensures.added;
  few = c.in_ok-add_ways.ensures.few;
}
