use Rattle.fixed_worth.proofs.Common.{◌≡◌, map, range_with_len}
use Rattle.report_engines.specs.ReportParts.{tonnes_going}
use Rattle.report_engines.proofs.way_rows.tonnes_that_go.Given as goal

abbrev pub invariant-loop-b : goal.invariant-loop-b
invariant-loop-b l = l.tonnes.items ≡ map (tonnes_going l.model l.column l.ways l.way) (range_with_len 0 l.b)
