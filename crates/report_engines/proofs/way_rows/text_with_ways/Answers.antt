use Rattle.std.proofs.Common.{◌≡◌, ◌∙◌, ℤ, List, Option, All, Vec, length, map, ap, sym, subst, ℕ}
use Rattle.std.specs.List.{range_with_len}
use Rattle.std.specs.declared.alloc.Global.{Global}
use Rattle.shells.specs.Prices.{PricesView, priced_count, way_at, worths_at}
use Rattle.bench_report.specs.Prelude.{AreTonnesOf, tonnes_by_way, way_count, way_table_text}
use Rattle.report_engines.specs.ReportParts.{blocks_with}
use Rattle.report_engines.proofs.WayColumns.{each_way, aligned, tonnes_are, way_many}
use Rattle.report_engines.proofs.way_rows.text_with_ways.Goals as goal

pub way_columns-requires : goal.way_columns-requires
way_columns-requires c =
    let prices = c.args.blocks.now.series.now.prices in
    let W : PricesView → List (Option ℕ) = λ v. map (way_at v c.args.factor) (range_with_len 0 (priced_count v)) in
    let ways : c.as_slice.result.now ≡ W prices = c.as_slice.ensures.value ∙ c.in_ok-ways.ensures
    ∙ ap W c.prices.ensures in
    record {
      priced = c.requires.priced;
      each = each_way c.args.blocks.now.model.now c.args.blocks.now.priced_by.now
          c.args.blocks.now.series.now c.requires.priced c.args.factor c.as_slice.result.now ways;
    }

pub way_table-requires : goal.way_table-requires
way_table-requires c =
    let prices = c.args.blocks.now.series.now.prices in
    let W : PricesView → List (Option ℕ) = λ v. map (way_at v c.args.factor) (range_with_len 0 (priced_count v)) in
    let ways : c.as_slice.result.now ≡ W prices = c.as_slice.ensures.value ∙ c.in_ok-ways.ensures
    ∙ ap W c.prices.ensures in
    let P : List (Vec ℤ Global)
    → Type 0 = λ columns. All (λ (list : Vec ℤ Global). length list.items ≡ length c.args.rows.now) columns in
    subst P (sym c.as_slice-2.ensures.value)
    (aligned c.args.blocks.now.model.now c.args.blocks.now.priced_by.now c.args.blocks.now.series.now
    c.requires.priced c.args.factor c.as_slice.result.now ways c.in_ok-by_way.by_way.items c.args.rows.now
    c.in_ok-by_way.ensures c.requires.table)

pub returns : goal.returns
returns c =
    let m = c.args.blocks.now.model.now in
    let by = c.args.blocks.now.priced_by.now in
    let series = c.args.blocks.now.series.now in
    let prices = series.prices in
    let k = c.args.factor in
    let rows = c.args.rows.now in
    let columns = c.in_ok-by_way.by_way.items in
    let W : PricesView → List (Option ℕ) = λ v. map (way_at v k) (range_with_len 0 (priced_count v)) in
    let ways : c.as_slice.result.now ≡ W prices = c.as_slice.ensures.value ∙ c.in_ok-ways.ensures
    ∙ ap W c.prices.ensures in
    let told = blocks_with m by series (worths_at prices k) in
    let tonnes = tonnes_by_way told (way_at prices k) (way_count prices) in
    let T : List (Vec ℤ Global) → Type 0 = λ columns. AreTonnesOf rows columns tonnes in
    let many : length c.as_slice-2.result.now ≡ way_count prices = ap length c.as_slice-2.ensures.value
    ∙ way_many m by series c.requires.priced k c.as_slice.result.now ways columns rows c.in_ok-by_way.ensures
    c.requires.table in
    c.in_ok-text.ensures tonnes
    (subst T (sym c.as_slice-2.ensures.value)
    (tonnes_are m by series c.requires.priced k c.as_slice.result.now ways columns rows c.in_ok-by_way.ensures
    c.requires.table))
    ∙ ap (λ n. way_table_text n tonnes rows) many
