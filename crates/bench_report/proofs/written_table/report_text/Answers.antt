use Rattle.std.proofs.Common.{pos}
use Rattle.bench_report.specs.Written.{written_bytes}
use Rattle.bench_report.proofs.Lines.{header_row, table-next}
use Rattle.bench_report.proofs.written_table.report_text.Goals as goal

pub loop-row-init : goal.loop-row-init
loop-row-init c =
    let from = c.from_writer-wtr.ensures in
    record {
      ready = c.in_ok-put_fields.ensures.ready;
      text = rw (header_row, from.wtr, c.new-2.ensures.items, from.empty) at c.in_ok-put_fields.ensures.text;
    }

pub loop-row-preserved : goal.loop-row-preserved
loop-row-preserved c = record {
  ready = c.in_ok-put_row.ensures.ready;
  text = table-next c.args.rows.now c.loop-row.row-index
      (record { z = pos 0; shell = 0; blocks = 0; tonnes = pos 0; worth = pos 0 }) (written_bytes c.loop-row.wtr)
      (written_bytes c.put_row.new.wtr)
      c.loop-row-test.true c.in_ok-put_row.ensures.text c.loop-row.invariant.text;
}
