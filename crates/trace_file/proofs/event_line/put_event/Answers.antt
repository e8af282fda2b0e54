use Rattle.fixed_worth.proofs.Common.{◌≡◌, ◌∙◌, decimal, on_ok_weaker, on_err_weaker}
use Rattle.trace_file.proofs.Puts.{line_held, space_failed, digits_failed, feed_failed}
use Rattle.trace_file.proofs.event_line.put_event.Goals as goal
use Rattle.fixed_worth.proofs.Results.{on_err}

pub returns-in_err-put-2-clause-prefix : goal.returns-in_err-put-2-clause-prefix
returns-in_err-put-2-clause-prefix g c =
    rw (← c.kind_word.ensures)
    (on_err c.from_residual-in_err-put-2.result
    (space_failed _ _ _ c.args.page.now c.put.new.self c.kind_word.result.now (decimal c.args.event.block)
    c.in_ok-put.ensures.held c.in_err-put-2.ensures.prefix))

pub returns-in_err-put-3-clause-prefix : goal.returns-in_err-put-3-clause-prefix
returns-in_err-put-3-clause-prefix g c =
    let e : c.as_bytes.result.now ≡ decimal c.args.event.block = c.as_bytes.ensures ∙ c.set.ensures.digits in
    rw (← c.kind_word.ensures, ← e)
    (on_err c.from_residual-in_err-put-3.result
    (digits_failed _ _ _ _ c.args.page.now c.put.new.self c.put-2.new.self c.kind_word.result.now
    c.as_bytes.result.now c.in_ok-put.ensures.held c.in_ok-put-2.ensures.held c.in_err-put-3.ensures.prefix))

pub returns-clause-held : goal.returns-clause-held
returns-clause-held g c =
    let e : c.as_bytes.result.now ≡ decimal c.args.event.block = c.as_bytes.ensures ∙ c.set.ensures.digits in
    rw (← c.kind_word.ensures, ← e)
    (on_ok_weaker c.put-4.result
    (line_held _ _ _ _ _ c.args.page.now c.put.new.self c.put-2.new.self c.put-3.new.self c.put-4.new.self
    c.kind_word.result.now c.as_bytes.result.now c.in_ok-put.ensures.held c.in_ok-put-2.ensures.held
    c.in_ok-put-3.ensures.held)
    c.put-4.ensures.held)

pub returns-clause-prefix : goal.returns-clause-prefix
returns-clause-prefix g c =
    let e : c.as_bytes.result.now ≡ decimal c.args.event.block = c.as_bytes.ensures ∙ c.set.ensures.digits in
    rw (← c.kind_word.ensures, ← e)
    (on_err_weaker c.put-4.result
    (feed_failed _ _ _ _ _ c.args.page.now c.put.new.self c.put-2.new.self c.put-3.new.self c.kind_word.result.now
    c.as_bytes.result.now c.in_ok-put.ensures.held c.in_ok-put-2.ensures.held c.in_ok-put-3.ensures.held)
    c.put-4.ensures.prefix)
