use Rattle.std.proofs.Common.{◌≡◌, ◌++◌, ℤ, List, length, take}
use Rattle.bench_report.specs.declared.bench_row.BenchRow.{BenchRow}
use Rattle.bench_report.specs.WayTonnes.{AreTonnesOf, way_header, way_rows_text}
use Rattle.bench_report.proofs.table_with_ways.way_table.Given as goal

abbrev pub invariant-loop-i : goal.invariant-loop-i
invariant-loop-i l = (tonnes : BenchRow → List ℤ) → AreTonnesOf l.rows l.by_way tonnes
    → l.text.items ≡ way_header (length l.by_way) ++ way_rows_text tonnes (take l.i l.rows)
