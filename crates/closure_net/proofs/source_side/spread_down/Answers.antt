use Rattle.std.proofs.Common.{arith, ap, ◌∙◌, sym, get_or}
use Rattle.closure_net.specs.Searches.{Always, above_at}
use Rattle.closure_net.proofs.Spreads.{passed_add, above_known}
use Rattle.closure_net.proofs.source_side.spread_down.Goals as goal

pub add-requires : goal.add-requires
add-requires c =
    let known = above_known c.args.rests.now c.args.b c.loop-p.p-index c.above-p-items.result.now
    c.len-blocks.ensures.all c.above-p-items.ensures (omega arith) in
    omega (arith, known, c.loop-p.invariant.blocks, c.requires.blocks)

pub loop-p-preserved : goal.loop-p-preserved
loop-p-preserved c = record {
  blocks = c.add.ensures.0 ∙ c.loop-p.invariant.blocks;
  found = passed_add Always (above_at c.args.rests.now.pairs c.args.b) c.args.search.now.found c.loop-p.search.found
      c.add.new.self.found c.loop-p.p-index _ c.loop-p.invariant.found tt
      (ap (λ xs. get_or xs c.loop-p.p-index 0) (sym c.above-p-items.ensures)) c.add.ensures.1;
}
