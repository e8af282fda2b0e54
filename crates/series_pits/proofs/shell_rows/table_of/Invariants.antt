use Rattle.std.proofs.Common.{◌≡◌, take}
use Rattle.series_pits.specs.ShellTable.{shell_table_text}
use Rattle.series_pits.proofs.shell_rows.table_of.Given as goal

abbrev pub invariant-loop-i : goal.invariant-loop-i
invariant-loop-i l = l.text.items ≡ shell_table_text (take l.i l.rows)
