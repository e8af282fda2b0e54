use Rattle.std.specs.BTreeMap.{get}
use Rattle.bench_report.specs.Prelude.{reported_blocks, by_bench, IsTallied}
use Rattle.bench_report.proofs.bench_table.tally.Given as goal

abbrev pub invariant-loop-b : goal.invariant-loop-b
invariant-loop-b l = IsTallied (reported_blocks l.model l.series l.tonnes l.worths) l.b (get by_bench l.rows)
