use Rattle.std.proofs.Common.{◌≡◌, ◌++◌, codes}
use Rattle.bench_report.specs.WayTonnes.{way_names}
use Rattle.bench_report.proofs.table_with_ways.header_of.Given as goal

abbrev pub invariant-loop-i : goal.invariant-loop-i
invariant-loop-i l = l.text.items ≡ codes "z,shell,blocks,tonnes,worth" ++ way_names l.i
