use Rattle.std.proofs.Common.{◌≡◌, ◌∙◌, ◌++◌, ap, rules, length, get_or}
use Rattle.bench_report.specs.WayTonnes.{no_row, tonnes_at, way_header, way_row_line}
use Rattle.bench_report.proofs.WayLines.{rows_more}
use Rattle.bench_report.proofs.table_with_ways.way_table.Goals as goal

pub loop-i-preserved : goal.loop-i-preserved
loop-i-preserved c = λ tonnes are.
    let line : c.deref.result.now ≡ way_row_line (get_or c.args.rows.now c.loop-i.i no_row)
    (tonnes_at c.args.by_way.now c.loop-i.i) = search (rules, c.in_ok-line.ensures, c.deref.ensures) in
    rows_more c.args.rows.now c.args.by_way.now tonnes c.loop-i.i (way_header (length c.args.by_way.now))
    c.loop-i.text.items _ are c.loop-i-test.true (c.loop-i.invariant tonnes are)
    (c.in_ok-extend_from_slice.ensures.items ∙ ap (λ xs. c.loop-i.text.items ++ xs) line)
