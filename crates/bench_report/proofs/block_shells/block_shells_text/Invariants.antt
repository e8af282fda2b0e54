use Rattle.std.proofs.Common.{◌≡◌, ◌++◌}
use Rattle.shells.specs.Series.{shell_at}
use Rattle.bench_report.specs.Prelude.{names_line, block_lines, IsReady, written_bytes}
use Rattle.bench_report.proofs.block_shells.block_shells_text.Given as goal

abbrev pub invariant-loop-b : goal.invariant-loop-b
invariant-loop-b l = record {
  ready : IsReady l.wtr;
  text : written_bytes l.wtr ≡ names_line ++ block_lines
      (shell_at l.series.shells) l.b;
}
