use Rattle.fixed_worth.proofs.Common.{◌≡◌, ℕ, ◌+◌, ◌<◌, List, [], ◌++◌, take, get_or, length, sym, ap, ◌∙◌, arith}
use Rattle.fixed_worth.proofs.Common.{take_more, flat_map_more}
use Rattle.series_pits.specs.ShellTable.{shell_row_line, shell_table_text}
use Rattle.series_pits.specs.declared.shell_rows.ShellRow.{ShellRow}
use Rattle.series_pits.proofs.shell_rows.table_of.Goals as goal

next : (rows : List ShellRow) (i : ℕ) (d : ShellRow) (old new : List ℕ) → i < length rows
    → old ≡ shell_table_text (take i rows) → new ≡ old ++ shell_row_line (get_or rows i d)
    → new ≡ shell_table_text (take (i + 1) rows)
next rows i d old new l is more = more ∙ ap (λ (t : List ℕ). t ++ shell_row_line (get_or rows i d)) is
    ∙ flat_map_more shell_row_line [] (take i rows) (get_or rows i d) ∙ sym (ap shell_table_text (take_more rows i d l))

pub loop-i-preserved : goal.loop-i-preserved
loop-i-preserved c =
    next c.args.rows.now c.loop-i.i _ c.loop-i.text.items _ (omega arith) c.loop-i.invariant
    (c.in_ok-extend_from_slice.ensures.items
    ∙ ap (λ (l : List ℕ). c.loop-i.text.items ++ l) (c.as_bytes.ensures.value ∙ c.in_ok-line.ensures))
