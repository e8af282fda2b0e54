use Rattle.std.proofs.Common.{◌≡◌, ◌∙◌, ℕ, ℤ, List, map, ap, sym, subst, arith}
use Rattle.std.specs.List.{range_with_len}
use Rattle.bench_report.specs.declared.bench_row.BenchRow.{BenchRow}
use Rattle.bench_report.specs.Prelude.{IsBenchTable}
use Rattle.mine_inputs.specs.PricedTexts.{place_beside}
use Rattle.report_engines.specs.ReportParts.{AreSmallAmounts, blocks_with, tonnes_going}
use Rattle.report_engines.proofs.SmallSums.{small_tonnes}
use Rattle.report_engines.proofs.WayColumns.{column_is}
use Rattle.report_engines.proofs.way_rows.way_column.Goals as goal

pub tonnes_that_go-requires : goal.tonnes_that_go-requires
tonnes_that_go-requires c = record
    { column = omega (arith, c.requires.priced.columns, c.place_beside-tonnes.ensures); each = c.requires.each }

pub rows_of-requires : goal.rows_of-requires
rows_of-requires c =
    let m = c.args.blocks.now.model.now in
    let by = c.args.blocks.now.priced_by.now in
    let G : ℕ → List ℤ = λ i. map (tonnes_going m i c.args.ways.now c.args.way) (range_with_len 0 m.blocks) in
    let going : c.as_slice.result.now ≡ G (place_beside by) = c.as_slice.ensures.value ∙ c.in_ok-going.ensures
    ∙ ap G c.place_beside-tonnes.ensures in
    let S : List ℤ → Type 0 = λ xs. AreSmallAmounts m xs in
    record {
      priced = c.requires.priced;
      small = subst S (sym going)
          (small_tonnes by m c.args.blocks.now.series.now.prices c.requires.priced c.args.ways.now c.args.way);
    }

pub returns : goal.returns
returns c =
    let m = c.args.blocks.now.model.now in
    let by = c.args.blocks.now.priced_by.now in
    let series = c.args.blocks.now.series.now in
    let G : ℕ → List ℤ = λ i. map (tonnes_going m i c.args.ways.now c.args.way) (range_with_len 0 m.blocks) in
    let going : c.as_slice.result.now ≡ G (place_beside by) = c.as_slice.ensures.value ∙ c.in_ok-going.ensures
    ∙ ap G c.place_beside-tonnes.ensures in
    let T : List ℤ → Type 0 = λ xs. IsBenchTable (blocks_with m by series xs) c.in_ok-rows.rows.items in
    column_is m by series c.args.ways.now c.args.way c.in_ok-rows.rows.items c.in_ok-column.column.items
    (subst T going c.in_ok-rows.ensures.rows)
    (c.in_ok-column.ensures ∙ ap (map (λ (r : BenchRow). r.worth)) c.as_slice-2.ensures.value)
