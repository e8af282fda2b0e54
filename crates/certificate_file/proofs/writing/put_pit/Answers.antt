use Rattle.std.proofs.Common.{◌∙◌, map}
use Rattle.certificate_file.specs.Written.{pit_at, body_text}
use Rattle.certificate_file.proofs.Puts.{block_put, block_failed}
use Rattle.certificate_file.proofs.writing.put_pit.Goals as goal
use Rattle.fixed_worth.proofs.Results.{on_err}

pub returns-in_err-put_line-clause-prefix : goal.returns-in_err-put_line-clause-prefix
returns-in_err-put_line-clause-prefix g c =
    on_err c.from_residual.result
    (block_failed c.blocks-blocks.result.now c.loop-block.block-index (g.W.Write.contents c.args.out.now)
    (g.W.Write.contents c.loop-block.out) (g.W.Write.contents c.put_line.new.out) c.args.page.now c.loop-block.page
    (body_text (map pit_at c.args.pit.now)) c.loop-block-test.true c.loop-block.invariant.put
    c.in_err-put_line.ensures.prefix)

pub loop-block-preserved : goal.loop-block-preserved
loop-block-preserved g c = record {
  put = block_put c.blocks-blocks.result.now c.loop-block.block-index (g.W.Write.contents c.args.out.now)
      (g.W.Write.contents c.loop-block.out) (g.W.Write.contents c.put_line.new.out) c.args.page.now c.loop-block.page
      c.put_line.new.page
      (body_text (map pit_at c.args.pit.now)) c.loop-block-test.true c.loop-block.invariant.put
      c.in_ok-put_line.ensures.held;
  kept = c.in_ok-put_line.ensures.kept ∙ c.loop-block.invariant.kept;
}
