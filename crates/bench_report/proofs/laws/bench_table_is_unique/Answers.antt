use Rattle.bench_report.proofs.OneTable.{table_is_one}
use Rattle.bench_report.proofs.laws.bench_table_is_unique.Goals as goal

pub returns : goal.returns
returns c = table_is_one
