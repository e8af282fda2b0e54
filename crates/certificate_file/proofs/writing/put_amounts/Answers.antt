use Rattle.std.proofs.Common.{below_more, ◌+◌, ◌<◌, length, drop, sym, subst, ◌∙◌, refl, arith}
use Rattle.ordered_group.specs.Sums.{amount_at}
use Rattle.certificate_file.specs.Prelude.{Writable, line_at, amount_lines, body_text}
use Rattle.certificate_file.proofs.Puts.{put_begins, line_put, line_failed, line_skipped}
use Rattle.certificate_file.proofs.writing.put_amounts.Goals as goal
use Rattle.certificate_file.proofs.writing.put_amounts.Goals.{then-not-is_zero+in_ok-put_line, else-not-is_zero}
use Rattle.fixed_worth.proofs.Results.{on_err}

pub loop-k-init : goal.loop-k-init
loop-k-init g c = record {
  put = put_begins (g.W.Write.contents c.args.out.now) c.args.page.now
      (body_text (amount_lines (line_at c.args.kind c.args.rests.now.pairs) 0 c.args.amounts.now));
  writable = λ j h. absurd (omega arith);
  kept = refl;
}

pub returns-in_err-put_line-clause-prefix : goal.returns-in_err-put_line-clause-prefix
returns-in_err-put_line-clause-prefix g c =
    let f = g.G.OrderedGroup.parts_of in
    let xs = c.args.amounts.now in
    let line = line_at c.args.kind c.args.rests.now.pairs in
    let k = c.loop-k.k in
    let x = c.at-amount.result in
    on_err c.from_residual.result
    (line_failed line xs k (f x) c.amount_line.result (g.W.Write.contents c.args.out.now)
    (g.W.Write.contents c.loop-k.out) (g.W.Write.contents c.put_line.new.out) c.args.page.now c.loop-k.page
    (body_text (amount_lines line 0 xs))
    (omega arith) (sym c.at-amount.ensures) (sym c.is_zero.ensures ∙ c.if-not-is_zero.true) c.amount_line.ensures
    c.loop-k.invariant.put c.in_err-put_line.ensures.prefix)

pub loop-k-preserved : goal.loop-k-preserved
loop-k-preserved g c =
    let f = g.G.OrderedGroup.parts_of in
    let xs = c.args.amounts.now in
    let line = line_at c.args.kind c.args.rests.now.pairs in
    let k = c.loop-k.k in
    let x = c.at-amount.result in
    let first = g.W.Write.contents c.args.out.now in
    let before = g.W.Write.contents c.loop-k.out in
    let after = g.W.Write.contents c.if-not-is_zero.out in
    let all = body_text (amount_lines line 0 xs) in
    let left = body_text (amount_lines line (k + 1) (drop (k + 1) xs)) in
    let inside : k < length xs = omega arith in
    let here = sym c.at-amount.ensures in
    let here_too = subst (Writable g.G.OrderedGroup.counts) (sym here) c.can_be_written.ensures in
    let more = below_more (λ j. Writable g.G.OrderedGroup.counts (amount_at xs j)) k c.loop-k.invariant.writable
    here_too in
    elim c.if-not-is_zero.branch [
      | then-not-is_zero+in_ok-put_line w ↦
          let put = line_put line xs k (f x) w.amount_line.result first before (g.W.Write.contents w.put_line.new.out)
          c.args.page.now c.loop-k.page w.put_line.new.page all inside here
          (sym c.is_zero.ensures ∙ w.if-not-is_zero.true) w.amount_line.ensures c.loop-k.invariant.put
          w.in_ok-put_line.ensures.held in
          record {
            put = rw (w.page-is, w.out-is) put;
            writable = more;
            kept = rw w.out-is (w.in_ok-put_line.ensures.kept ∙ c.loop-k.invariant.kept);
          }
      | else-not-is_zero w ↦
          let put = line_skipped line xs k (f x) first before c.args.page.now c.loop-k.page all inside here
          (sym c.is_zero.ensures ∙ w.if-not-is_zero.false) c.loop-k.invariant.put in
          record {
            put = rw (w.page-is, w.out-is) put;
            writable = more;
            kept = rw w.out-is c.loop-k.invariant.kept;
          }
    ]
