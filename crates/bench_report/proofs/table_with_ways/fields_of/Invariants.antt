use Rattle.std.proofs.Common.{◌≡◌, take}
use Rattle.bench_report.specs.WayTonnes.{tonnes_at, tonnes_fields}
use Rattle.bench_report.proofs.table_with_ways.fields_of.Given as goal

abbrev pub invariant-loop-i : goal.invariant-loop-i
invariant-loop-i l = l.text.items ≡ tonnes_fields (tonnes_at (take l.i l.by_way) l.place)
