use Rattle.fixed_worth.proofs.Common.{◌≡◌, [], ◌++◌, pos, get_or, ap, ◌∙◌, append-nil, arith, get_or_read}
use Rattle.fixed_worth.proofs.Common.{err_from_is_err_and, common_steps}
use Rattle.upit_file.specs.Writing.{record_line}
use Rattle.upit_file.proofs.LineFeeds.{held_record, prefix_record}
use Rattle.upit_file.proofs.writing.put_records.Goals as goal

pub returns-in_err-put_line-clause-prefix : goal.returns-in_err-put_line-clause-prefix
returns-in_err-put_line-clause-prefix g c =
    let i = c.loop-value.value-index in
    let v = get_or_read c.args.values.now i c.value-item.result c.loop-value-test.true c.value-item.is (pos 0) in
    let line : c.as_bytes.result.now ++ [] ≡ record_line i (get_or c.args.values.now i (pos 0)) = append-nil
    c.as_bytes.result.now ∙ c.as_bytes.ensures ∙ c.record_line-line.ensures
    ∙ ap (λ b. record_line b c.value-item.result) c.loop-value.invariant.block_so ∙ ap (record_line i) v in
    let p = err_from_is_err_and c.from_residual.result c.from_residual.ensures.1 in
    rw p.1 (prefix_record (g.W.Write.contents c.args.out.now) (g.W.Write.contents c.loop-value.out)
    (g.W.Write.contents c.put_line.new.out) c.args.page.now c.loop-value.page c.args.values.now i
    (c.as_bytes.result.now ++ []) c.loop-value-test.true line
    c.loop-value.invariant.held c.in_err-put_line.ensures.prefix)

pub loop-value-preserved : goal.loop-value-preserved
loop-value-preserved g c = grind (arith, common_steps, get_or_read, append-nil, held_record)
