use Rattle.fixed_worth.proofs.Common.{◌∙◌, subst, err_from_is_err_and}
use Rattle.ordered_group.specs.Block.{scaled_block}
use Rattle.prec_file.specs.Rests.{RestsView}
use Rattle.shells.specs.Prelude.{PricesView, rests_in}
use Rattle.series_pits.specs.SettledSeries.{IsNetAt, NoSeriesStands}
use Rattle.series_pits.proofs.Proving.{proved_by}
use Rattle.series_pits.proofs.settled_series.best_at.Goals as goal

pub returns-in_err-net-clause-fault : goal.returns-in_err-net-clause-fault
returns-in_err-net-clause-fault g c =
    let p = err_from_is_err_and c.from_residual-in_err-net.result c.from_residual-in_err-net.ensures.1 in
    let e = c.in_err-net.field-0.0 in
    let s = c.args.series.now in
    rw (p.1, p.2) (λ factors held.
    let stands = c.in_err-net.ensures factors c.args.effort held in
    let own = subst (λ (r : RestsView). NoSeriesStands scaled_block r c.prices.result.now factors c.args.effort e)
    (c.in_ok-rests.ensures ∙ c.rests.ensures) stands in
    subst (λ (t : PricesView). NoSeriesStands scaled_block (rests_in s) t factors c.args.effort e) c.prices.ensures own)

pub returns-clause-best : goal.returns-clause-best
returns-clause-best g c =
    let net = c.in_ok-net.net in
    let s = c.args.series.now in
    let k = c.args.factor in
    let own = subst (λ (r : RestsView). IsNetAt scaled_block r.pairs c.prices.result.now k net)
    (c.in_ok-rests.ensures ∙ c.rests.ensures) c.in_ok-net.ensures in
    let at = subst (λ (t : PricesView). IsNetAt scaled_block s.pairs t k net) c.prices.ensures own in
    let best = c.best_of.ensures net c.in-Ok.ensures in
    (best.at, proved_by scaled_block s.pairs s.prices k net c.best_of.result at best)
