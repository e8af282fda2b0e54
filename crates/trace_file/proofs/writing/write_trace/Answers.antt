use Rattle.fixed_worth.proofs.Common.{subst, ◌∙◌, All, take_all, on_ok_weaker, on_err_weaker}
use Rattle.counted_devices.proofs.Pieces.{held_sent, held_prefix}
use Rattle.trace_file.specs.Written.{trace_text}
use Rattle.trace_file.proofs.RoundTrip.{Fits, written_is_read}
use Rattle.trace_file.proofs.Puts.{head_failed, line_failed, put_more, fit_next, end_failed, all_held}
use Rattle.trace_file.proofs.writing.write_trace.Goals as goal
use Rattle.fixed_worth.proofs.Results.{on_err, on_ok}

pub returns-in_err-put-clause-prefix : goal.returns-in_err-put-clause-prefix
returns-in_err-put-clause-prefix g c =
    on_err c.from_residual.result
    (head_failed (g.W.Write.contents c.args.out.now) (g.W.Write.contents c.put.new.out) c.new-page.result
    c.args.events.now c.new-page.ensures c.in_err-put.ensures.prefix)

pub returns-in_err-put_event-clause-prefix : goal.returns-in_err-put_event-clause-prefix
returns-in_err-put_event-clause-prefix g c =
    on_err c.from_residual-in_err-put_event.result
    (line_failed (g.W.Write.contents c.args.out.now) (g.W.Write.contents c.loop-event.out)
    (g.W.Write.contents c.put_event.new.out) c.loop-event.page c.args.events.now c.loop-event.event-index _
    c.loop-event-test.true
    c.loop-event.invariant.held c.in_err-put_event.ensures.prefix)

pub loop-event-preserved : goal.loop-event-preserved
loop-event-preserved g c = record {
  held = put_more (g.W.Write.contents c.args.out.now) (g.W.Write.contents c.loop-event.out)
      (g.W.Write.contents c.put_event.new.out) c.loop-event.page c.put_event.new.page c.args.events.now
      c.loop-event.event-index _ c.loop-event-test.true
      c.loop-event.invariant.held c.in_ok-put_event.ensures.held;
  fit = fit_next c.args.events.now c.loop-event.event-index _ c.loop-event-test.true c.loop-event.invariant.fit
      c.in_ok-put_event.ensures.fits;
  kept = c.in_ok-put_event.ensures.kept ∙ c.loop-event.invariant.kept;
}

pub returns-in_err-put-2-clause-prefix : goal.returns-in_err-put-2-clause-prefix
returns-in_err-put-2-clause-prefix g c =
    on_err c.from_residual-in_err-put-2.result
    (end_failed (g.W.Write.contents c.args.out.now) (g.W.Write.contents c.loop-event.out)
    (g.W.Write.contents c.put-2.new.out) c.loop-event.page c.args.events.now c.loop-event.event-index
    c.loop-event-test.false c.loop-event.invariant.held c.in_err-put-2.ensures.prefix)

pub returns-clause-sent : goal.returns-clause-sent
returns-clause-sent g c =
    let all = all_held (g.W.Write.contents c.args.out.now) (g.W.Write.contents c.loop-event.out)
    (g.W.Write.contents c.put-2.new.out) c.loop-event.page c.put-2.new.self c.args.events.now
    c.loop-event.event-index c.loop-event-test.false c.loop-event.invariant.held c.in_ok-put-2.ensures.held in
    on_ok_weaker c.finish.result
    (held_sent (g.W.Write.contents c.args.out.now) (g.W.Write.contents c.put-2.new.out)
    (g.W.Write.contents c.finish.new.out) c.put-2.new.self (trace_text c.args.events.now) all) c.finish.ensures.sent

pub returns-clause-read_back : goal.returns-clause-read_back
returns-clause-read_back g c =
    let fit : All Fits c.args.events.now = subst (All Fits)
    (take_all c.loop-event.event-index c.args.events.now c.loop-event-test.false) c.loop-event.invariant.fit in
    on_ok c.finish.result (written_is_read c.args.events.now c.requires.few fit)

pub returns-clause-prefix : goal.returns-clause-prefix
returns-clause-prefix g c =
    let all = all_held (g.W.Write.contents c.args.out.now) (g.W.Write.contents c.loop-event.out)
    (g.W.Write.contents c.put-2.new.out) c.loop-event.page c.put-2.new.self c.args.events.now
    c.loop-event.event-index c.loop-event-test.false c.loop-event.invariant.held c.in_ok-put-2.ensures.held in
    on_err_weaker c.finish.result
    (held_prefix (g.W.Write.contents c.args.out.now) (g.W.Write.contents c.put-2.new.out)
    (g.W.Write.contents c.finish.new.out) c.put-2.new.self (trace_text c.args.events.now) all)
    c.finish.ensures.prefix
