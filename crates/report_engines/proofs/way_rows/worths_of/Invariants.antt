use Rattle.fixed_worth.proofs.Common.{◌≡◌, map, take}
use Rattle.bench_report.specs.declared.bench_row.BenchRow.{BenchRow}
use Rattle.report_engines.proofs.way_rows.worths_of.Given as goal

abbrev pub invariant-loop-i : goal.invariant-loop-i
invariant-loop-i l = l.worths.items ≡ map (λ (r : BenchRow). r.worth) (take l.i l.rows)
