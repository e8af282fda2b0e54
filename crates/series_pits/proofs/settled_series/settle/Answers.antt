use Rattle.fixed_worth.proofs.Common.{◌≡◌, ◌∙◌, ℕ, List, sym, ap, subst, err_from_is_err_and}
use Rattle.ordered_group.specs.Block.{scaled_block}
use Rattle.prec_file.specs.Rests.{RestsView}
use Rattle.shells.specs.Prelude.{PricesView, priced_count, rests_in}
use Rattle.series_pits.specs.SettledSeries.{NoSeriesStands}
use Rattle.series_pits.proofs.settled_series.settle.Goals as goal

pub returns-in_err-settle_at : goal.returns-in_err-settle_at
returns-in_err-settle_at g c =
    let mine = c.args.mine in
    let factors = mine.factors.items in
    let effort = c.args.effort in
    let s = c.loop-place.shells.series in
    let same = c.loop-place.invariant in
    let e = c.in_err-settle_at.field-0.0 in
    let p = err_from_is_err_and c.from_residual-in_err-settle_at.result c.from_residual-in_err-settle_at.ensures.1 in
    let blocks = ap priced_count same.same_prices ∙ sym mine.sizes in
    let rests : rests_in s ≡ mine.predecessors = λ i. record { blocks = blocks i; pairs = same.same_pairs i } in
    let own = subst (λ (fs : List ℕ). NoSeriesStands scaled_block (rests_in s) s.prices fs effort e)
    c.as_slice.ensures.value c.in_err-settle_at.ensures.fault in
    let priced = subst (λ (t : PricesView). NoSeriesStands scaled_block (rests_in s) t factors effort e)
    same.same_prices own in
    rw (p.1, p.2) (subst (λ (r : RestsView). NoSeriesStands scaled_block r mine.prices factors effort e) rests priced)
