use Rattle.std.proofs.Common.{◌≡◌, ◌∙◌, ℤ, List, ap, sym, subst, arith, ◌≤◌}
use Rattle.fixed_worth.specs.declared.limits.TheConstants.{MOST_FACTOR}
use Rattle.shells.specs.Prices.{PricesView, worths_at}
use Rattle.report_engines.specs.ReportParts.{AreSmallAmounts}
use Rattle.report_engines.proofs.SmallSums.{small_worths}
use Rattle.report_engines.proofs.bench_rows.rows_at.Goals as goal

pub rows_of-requires : goal.rows_of-requires
rows_of-requires g c =
    let m = c.args.blocks.now.model.now in
    let series = c.args.blocks.now.series.now in
    let worths : c.as_slice.result.now ≡ worths_at series.prices c.args.factor = c.as_slice.ensures.value
    ∙ c.in_ok-worths.ensures ∙ ap (λ (v : PricesView). worths_at v c.args.factor) c.prices.ensures in
    let low : c.args.factor ≤ MOST_FACTOR = omega
    (arith, c.get-thousandths.ensures.value, c.get-thousandths.ensures.bound) in
    let S : List ℤ → Type 0 = λ vs. AreSmallAmounts m vs in
    record {
      priced = c.requires;
      small = subst S (sym worths)
          (small_worths c.args.blocks.now.priced_by.now m series.prices c.requires c.args.factor low);
    }
