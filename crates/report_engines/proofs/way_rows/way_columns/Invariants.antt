use Rattle.report_engines.specs.ReportParts.{AreWayColumns}
use Rattle.report_engines.proofs.way_rows.way_columns.Given as goal

abbrev pub invariant-loop-way : goal.invariant-loop-way
invariant-loop-way l = AreWayColumns l.blocks.model.now l.blocks.priced_by.now l.blocks.series.now l.ways l.way
    l.columns.items
