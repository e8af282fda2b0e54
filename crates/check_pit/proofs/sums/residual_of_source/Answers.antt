use Rattle.fixed_worth.proofs.Common.{◌≡◌, sym, ap, ap₂, ◌∙◌, below_more, arith, common_steps}
use Rattle.ordered_group.specs.Prelude.{zero_amount, plus, total}
use Rattle.ordered_group.proofs.Totals.{plus-zero_right}
use Rattle.ordered_group.proofs.Steps.{total_step, fits_there, fits_same}
use Rattle.closure_net.specs.Flows.{residual_at}
use Rattle.certificate_file.proofs.Amounts.{residual_here}
use Rattle.check_pit.proofs.Over.{zero_fits}
use Rattle.check_pit.proofs.sums.residual_of_source.Goals as goal
use Rattle.check_pit.proofs.sums.residual_of_source.Goals.{then-not-has_no_residual+in_ok-room+in_ok-sum}
use Rattle.check_pit.proofs.sums.residual_of_source.Goals.{else-not-has_no_residual}

pub loop-b-preserved : goal.loop-b-preserved
loop-b-preserved g c =
    let parts = g.G.OrderedGroup.parts_of in
    let old = parts c.loop-b.sum in
    let room = residual_at c.args.net.now.worths c.args.flow.now.source in
    elim c.if-not-has_no_residual.branch [
      | then-not-has_no_residual+in_ok-room+in_ok-sum v ↦ grind
          (arith, common_steps, residual_here, total_step, below_more, fits_same, fits_there)
      | else-not-has_no_residual v ↦
          let z : room c.loop-b.b ≡ zero_amount = c.has_no_residual.ensures v.if-not-has_no_residual.false in
          record {
            so_far = ap parts v.sum-is ∙ total_step room c.loop-b.b old old zero_amount c.loop-b.invariant.so_far z
                (sym (plus-zero_right old));
            now = fits_same _ _ (ap parts v.sum-is) c.loop-b.invariant.now;
            fits = below_more _ _ c.loop-b.invariant.fits (
              fits_same (room c.loop-b.b) zero_amount z zero_fits,
              fits_same (plus (total room c.loop-b.b) (room c.loop-b.b)) old
                  (ap₂ plus (sym c.loop-b.invariant.so_far) z ∙ plus-zero_right old) c.loop-b.invariant.now,
            );
          }
    ]
