use Rattle.std.proofs.Common.{◌∙◌, ap, refl}
use Rattle.shell_engines.specs.Prelude.{AnswersShells, ShellsFail}
use Rattle.series_pits.specs.Prelude.{shell_table_text}
use Rattle.shell_engines.proofs.BlockTables.{has_table}
use Rattle.shell_engines.proofs.Lifted.{is_table, denoted, no_series_answer}
use Rattle.shell_engines.proofs.series_engine.answer_of.Goals as goal

pub returns-clause-answer : goal.returns-clause-answer
returns-clause-answer g c = λ s b p read.
    let mine = c.args.mine in (
      is_table s b p mine.prices mine.predecessors mine.factors.items mine.factor read
          c.best_pits_at_factors_are_nested.ensures c.in-Ok.shells.rows.items c.in_ok-table_of.field-0.items
          c.in-Ok.ensures.rows_are (c.in_ok-table_of.ensures ∙ ap shell_table_text c.as_slice.ensures.value),
      has_table s b p mine.prices mine.predecessors mine.factors.items mine.factor read c.in-Ok.shells.series
          c.in-Ok.shells.rows.items c.in-Ok.ensures c.in_ok-table_if_asked.ensures.series c.args.wanted.table
          c.args.wanted.ways c.in_ok-table_if_asked.field-0.items c.in_ok-table_if_asked.ensures.table,
    )

pub returns-in-Err-clause-answer : goal.returns-in-Err-clause-answer
returns-in-Err-clause-answer g c = λ s b p read.
    let mine = c.args.mine in
    let d = denoted s b p mine.prices mine.predecessors mine.factors.items mine.factor read in
    no_series_answer s b p mine.prices mine.predecessors mine.factors.items mine.factor read c.args.effort
    (AnswersShells s b p c.args.effort c.args.wanted) (ShellsFail s b p) (λ text h. (h, refl)) tt d d (λ fault h. h)
    c.in-Err.none c.no_series.result c.in-Err.ensures c.no_series.ensures
