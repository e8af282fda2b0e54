use Rattle.bench_report.specs.Benches.{blocks_at}
use Rattle.bench_report.proofs.Ways.{add_up}
use Rattle.bench_report.proofs.laws.ways_add_up.Goals as goal

pub returns : goal.returns
returns c = λ m way n r h. add_up m.tonnes (blocks_at m r.z r.shell) way n m.blocks h
