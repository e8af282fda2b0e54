use Rattle.std.proofs.Common.{◌≡◌, ◌++◌}
use Rattle.shells.specs.Prelude.{way_at, shell_at}
use Rattle.bench_report.specs.BlockShells.{way_names_line, block_way_lines}
use Rattle.bench_report.proofs.block_ways.block_ways_text.Given as goal

abbrev pub invariant-loop-b : goal.invariant-loop-b
invariant-loop-b l = l.text.items ≡ way_names_line ++ block_way_lines (shell_at l.series.shells)
    (way_at l.series.prices l.factor) l.b
