use Rattle.std.proofs.Common.{◌≡◌, ◌++◌, take}
use Rattle.bench_report.specs.Written.{IsReady, written_bytes, header_line, rows_text}
use Rattle.bench_report.proofs.written_table.report_text.Given as goal

abbrev pub invariant-loop-row : goal.invariant-loop-row
invariant-loop-row l = record {
  ready : IsReady l.wtr;
  text : written_bytes l.wtr ≡ header_line ++ rows_text
      (take l.row-index l.rows);
}
