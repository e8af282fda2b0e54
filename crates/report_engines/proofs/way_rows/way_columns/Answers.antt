use Rattle.std.proofs.Common.{ap, map}
use Rattle.report_engines.proofs.WayColumns.{columns_more}
use Rattle.report_engines.proofs.way_rows.way_columns.Goals as goal

pub loop-way-init : goal.loop-way-init
loop-way-init c = λ worths rows h. ap (map (λ column. column.items)) c.new-columns.ensures.items

pub loop-way-preserved : goal.loop-way-preserved
loop-way-preserved c =
    columns_more c.args.blocks.now.model.now c.args.blocks.now.priced_by.now c.args.blocks.now.series.now
    c.args.ways.now c.loop-way.way c.loop-way.columns.items _ c.in_ok-column.column c.in_ok-push.ensures.items
    c.loop-way.invariant c.in_ok-column.ensures
