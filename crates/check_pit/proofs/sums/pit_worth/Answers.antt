use Rattle.std.proofs.Common.{arith, below_more, ap, ◌∙◌, sym}
use Rattle.closure_net.proofs.Views.{at_view}
use Rattle.ordered_group.specs.Sums.{amount_at}
use Rattle.ordered_group.proofs.Steps.{set_step, set_skip, fits_there}
use Rattle.closure_net.specs.Network.{holds_of}
use Rattle.check_pit.proofs.sums.pit_worth.Goals as goal
use Rattle.check_pit.proofs.sums.pit_worth.Goals.{then-holds_near+in_ok-sum, else-holds_near}

pub loop-b-preserved : goal.loop-b-preserved
loop-b-preserved g c =
    let parts = g.G.OrderedGroup.parts_of in
    let w = amount_at c.args.net.now.worths in
    let e = holds_of c.args.pit.now in
    elim c.if-holds_near.branch [
      | then-holds_near+in_ok-sum v ↦
          let q = at_view parts c.worths-worths.result.now c.args.net.now.worths c.loop-b.b v.index-worths-b.result
          c.worths-worths.ensures.is (omega arith) v.index-worths-b.is in
          let on = sym c.holds_near.ensures.is ∙ v.if-holds_near.true in
          record {
            so_far = ap parts v.sum-is
                ∙ set_step e w c.loop-b.b _ _ _ on c.loop-b.invariant.so_far q v.in_ok-sum.ensures.1;
            fits = below_more _ _ c.loop-b.invariant.fits
                (λ k. fits_there _ _ _ _ c.loop-b.invariant.so_far q v.in_ok-sum.ensures.0);
          }
      | else-holds_near v ↦
          let off = sym c.holds_near.ensures.is ∙ v.if-holds_near.false in
          record {
            so_far = ap parts v.sum-is ∙ set_skip e w c.loop-b.b _ off c.loop-b.invariant.so_far;
            fits = below_more _ _ c.loop-b.invariant.fits (λ k. absurd (cc (k, off)));
          }
    ]
