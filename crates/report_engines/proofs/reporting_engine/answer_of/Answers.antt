use Rattle.fixed_worth.proofs.Common.{List, ◌∙◌, ap, rules, sym, subst, err_from_is_err_and}
use Rattle.shells.specs.Prices.{PricesView, way_at, worths_at}
use Rattle.bench_report.specs.declared.bench_row.BenchRow.{BenchRow}
use Rattle.bench_report.specs.Prelude.{IsBenchTable, bench_text, way_count}
use Rattle.shell_engines.proofs.BlockTables.{has_table}
use Rattle.report_engines.specs.ReportParts.{IsPricedModel, blocks_with}
use Rattle.report_engines.proofs.Tables.{is_report, no_report_answer}
use Rattle.report_engines.proofs.reporting_engine.answer_of.Goals as goal

pub rows_at-requires : goal.rows_at-requires
rows_at-requires g c = (
  search rules,
  subst
      (λ (v : PricesView). IsPricedModel c.args.mine.priced_by c.args.mine.model v) (sym c.in-Ok.ensures.same_prices)
      c.args.mine.priced,
)

pub text_of-requires : goal.text_of-requires
text_of-requires g c =
    let mine = c.args.mine in
    let series = c.in-Ok.shells.series in
    let T : List BenchRow → Type 0 = λ rows. IsBenchTable
    (blocks_with mine.model mine.priced_by series (worths_at series.prices mine.series.factor)) rows in
    record {
      priced = subst (λ (v : PricesView). IsPricedModel mine.priced_by mine.model v) (sym c.in-Ok.ensures.same_prices)
          mine.priced;
      table = subst T (sym c.as_slice.ensures.value) c.in_ok-rows.ensures.rows;
    }

pub returns-clause-answer : goal.returns-clause-answer
returns-clause-answer g c = λ s b p read.
    let mine = c.args.mine in
    let shells = c.in-Ok.shells in
    let series = shells.series in
    let told = blocks_with mine.model mine.priced_by series (worths_at series.prices mine.series.factor) in
    let text = c.in_ok-text.ensures
    ∙ ap (bench_text c.args.wanted.ways told (way_at series.prices mine.series.factor) (way_count series.prices))
    c.as_slice.ensures.value in (
      is_report s b p mine.series.prices mine.series.predecessors mine.series.factors.items mine.model mine.priced_by
          mine.series.factor read series shells.rows.items c.in-Ok.ensures c.in_ok-rows.ensures.series
          c.best_pits_at_factors_are_nested.ensures
          c.args.wanted.ways c.in_ok-rows.rows.items c.in_ok-rows.ensures.rows c.in_ok-text.text.items text,
      has_table s b p mine.series.prices mine.series.predecessors mine.series.factors.items mine.series.factor
          read.series series shells.rows.items c.in-Ok.ensures c.in_ok-table_if_asked.ensures.series
          c.args.wanted.table c.args.wanted.ways c.in_ok-table_if_asked.field-0.items
          c.in_ok-table_if_asked.ensures.table,
    )

pub returns-in-Err-clause-answer : goal.returns-in-Err-clause-answer
returns-in-Err-clause-answer g c = λ s b p read.
    let mine = c.args.mine in
    no_report_answer s b p mine.series.prices mine.series.predecessors mine.series.factors.items mine.model
    mine.priced_by mine.series.factor read c.args.effort c.args.wanted c.in-Err.none c.no_series.result
    c.in-Err.ensures c.no_series.ensures

pub returns-in_err-rows-clause-answer : goal.returns-in_err-rows-clause-answer
returns-in_err-rows-clause-answer g c = λ s b p read.
    let q = err_from_is_err_and c.from_residual.result c.from_residual.ensures.1 in
    rw (q.1, q.2) tt

pub returns-in_err-table_if_asked-clause-answer : goal.returns-in_err-table_if_asked-clause-answer
returns-in_err-table_if_asked-clause-answer g c = λ s b p read.
    let q = err_from_is_err_and c.from_residual-in_err-table_if_asked.result
    c.from_residual-in_err-table_if_asked.ensures.1 in
    rw (q.1, q.2) tt

pub returns-in_err-text-clause-answer : goal.returns-in_err-text-clause-answer
returns-in_err-text-clause-answer g c = λ s b p read.
    let q = err_from_is_err_and c.from_residual-in_err-text.result c.from_residual-in_err-text.ensures.1 in
    rw (q.1, q.2) tt
