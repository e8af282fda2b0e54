use Rattle.fixed_worth.proofs.Common.{◌+◌, subst, arith, on_err_weaker, common_steps}
use Rattle.counted_devices.specs.Device.{ReceivedPrefix}
use Rattle.counted_devices.proofs.Pieces.{held_more, held_more_prefix, held_prefix, prefix_of_part}
use Rattle.prec_file.specs.Written.{prec_line, lines_below}
use Rattle.prec_file.proofs.WrittenPieces.{lines_more, lines_front}
use Rattle.prec_file.proofs.writing.write_lines.Goals as goal
use Rattle.fixed_worth.proofs.Results.{on_err}
use Rattle.fixed_worth.proofs.Results.{on_err}

pub loop-block-preserved : goal.loop-block-preserved
loop-block-preserved g c = grind (arith, common_steps, lines_more, held_more)

pub returns-in_err-put_line-clause-prefix : goal.returns-in_err-put_line-clause-prefix
returns-in_err-put_line-clause-prefix g c =
    let ps = c.args.predecessors.now.pairs in
    let b = c.loop-block.block in
    let all = lines_front ps (b + 1) c.args.predecessors.now.blocks (omega arith) in
    on_err c.from_residual.result
    (prefix_of_part _ _ (lines_below ps (b + 1)) all.0 _ all.1
    (subst (ReceivedPrefix (g.W.Write.contents c.args.out.now) (g.W.Write.contents c.put_line.new.out))
    (lines_more ps b)
    (held_more_prefix _ _ _ c.loop-block.page _ (prec_line ps b) c.loop-block.invariant.0
    c.in_err-put_line.ensures.prefix)))

pub returns-clause-prefix : goal.returns-clause-prefix
returns-clause-prefix g c =
    let ps = c.args.predecessors.now.pairs in
    let b = c.loop-block.block in
    let all = lines_front ps b c.args.predecessors.now.blocks (omega arith) in
    on_err_weaker c.finish.result
    (λ part. prefix_of_part _ _ (lines_below ps b) all.0 _ all.1
    (held_prefix _ _ _ c.loop-block.page _ c.loop-block.invariant.0 part))
    c.finish.ensures.prefix
