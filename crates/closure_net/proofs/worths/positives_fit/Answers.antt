use Rattle.std.proofs.Common.{arith, map, ap, sym, ◌∙◌}
use Rattle.ordered_group.specs.Prelude.{positive, amount_at}
use Rattle.ordered_group.proofs.Lists.{at_map}
use Rattle.ordered_group.proofs.Steps.{total_step, SumFits_step}
use Rattle.closure_net.proofs.worths.positives_fit.Goals as goal

pub loop-w-preserved : goal.loop-w-preserved
loop-w-preserved g c =
    let parts = g.G.OrderedGroup.parts_of in
    let read = ap positive (at_map parts c.args.worths.now c.loop-w.w-index c.w-item.result (omega arith) c.w-item.is)
    ∙ sym c.positive_part.ensures in
    record {
      so_far = total_step (λ b. positive (amount_at (map parts c.args.worths.now) b)) c.loop-w.w-index _ _ _
          c.loop-w.invariant.so_far read c.in-Some.ensures.1;
      fits = SumFits_step _ _ _ _ c.loop-w.invariant.fits c.loop-w.invariant.so_far read c.in-Some.ensures.0;
    }
