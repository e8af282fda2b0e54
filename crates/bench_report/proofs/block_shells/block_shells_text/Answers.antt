use Rattle.shells.specs.Series.{shell_at}
use Rattle.bench_report.specs.Written.{written_bytes}
use Rattle.bench_report.proofs.Lines.{names_row, block_lines-next}
use Rattle.bench_report.proofs.block_shells.block_shells_text.Goals as goal

pub loop-b-init : goal.loop-b-init
loop-b-init c =
    let from = c.from_writer-wtr.ensures in
    record {
      ready = c.in_ok-put_fields.ensures.ready;
      text = rw (names_row, from.wtr, c.new-2.ensures.items, from.empty) at c.in_ok-put_fields.ensures.text;
    }

pub loop-b-preserved : goal.loop-b-preserved
loop-b-preserved c = record {
  ready = c.in_ok-put_block.ensures.ready;
  text = block_lines-next (shell_at c.args.series.now.shells) c.loop-b.b (written_bytes c.loop-b.wtr)
      (written_bytes c.put_block.new.wtr) (rw c.shell_of.ensures.is at c.in_ok-put_block.ensures.text)
      c.loop-b.invariant.text;
}
