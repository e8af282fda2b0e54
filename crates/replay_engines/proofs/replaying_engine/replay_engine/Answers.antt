use Rattle.fixed_worth.proofs.Common.{◌+◌, refl, err_from_is_err_and}
use Rattle.engine_faults.proofs.Failed.{raised, stayed, went, first_of_two, second_of_two}
use Rattle.mine_inputs.proofs.MineDevices.{mine_once, other_once}
use Rattle.replay_engines.proofs.Answered.{unread, trace_unread, replay_answer}
use Rattle.replay_engines.proofs.replaying_engine.replay_engine.Goals as goal

pub returns-in_err-mine-clause-answer : goal.returns-in_err-mine-clause-answer
returns-in_err-mine-clause-answer g c =
    let p = err_from_is_err_and c.from_residual.result c.from_residual.ensures.1 in
    rw (p.1, p.2)
    (unread c.args.inputs.now g.D.Read.remaining c.args.asked.factor (g.E.Read.remaining c.args.trace.now)
    c.args.asked.group (g.W.Write.contents c.args.out.now) c.in_err-mine.field-0.0 c.in_err-mine.ensures.read)

pub returns-in_err-events-clause-answer : goal.returns-in_err-events-clause-answer
returns-in_err-events-clause-answer g c =
    let p = err_from_is_err_and c.from_residual-in_err-events.result c.from_residual-in_err-events.ensures.1 in
    let mine = c.in_ok-mine.mine in
    rw (p.1, p.2)
    (trace_unread c.args.inputs.now g.D.Read.remaining c.args.asked.factor (g.E.Read.remaining c.args.trace.now)
    c.args.asked.group mine.nanos.items mine.rests mine.price c.in_ok-mine.ensures.read
    (g.W.Write.contents c.args.out.now) c.in_err-events.field-0.0 c.in_err-events.ensures.read)

pub returns-clause-answer : goal.returns-clause-answer
returns-clause-answer g c =
    let mine = c.in_ok-mine.mine in
    replay_answer c.args.inputs.now g.D.Read.remaining c.args.asked.factor (g.E.Read.remaining c.args.trace.now)
    c.args.asked.group mine.nanos.items mine.rests mine.price c.in_ok-mine.ensures.read
    c.in_ok-events.events.items c.as_slice.result.now (g.W.Write.contents c.args.out.now)
    (g.W.Write.contents c.replay_mine.new.out) c.replay_mine.result
    c.in_ok-events.ensures.read c.as_slice.ensures.value c.replay_mine.ensures.answer

pub returns-in_err-mine-clause-device : goal.returns-in_err-mine-clause-device
returns-in_err-mine-clause-device g c = λ d.
    mine_once c.args.inputs.now c.indexed_mine.new.inputs g.D.CountedRead.failed _ _
    (raised c.from_residual.result c.in_err-mine.field-0.0 c.from_residual.ensures.1 c.in_err-mine.ensures.device
    d) refl

pub returns-in_err-mine-clause-kept : goal.returns-in_err-mine-clause-kept
returns-in_err-mine-clause-kept g c = λ n. (
  stayed c.from_residual.result c.in_err-mine.field-0.0 c.from_residual.ensures.1 c.in_err-mine.ensures.kept n,
  refl,
  refl,
)

pub returns-in_err-events-clause-device : goal.returns-in_err-events-clause-device
returns-in_err-events-clause-device g c = λ d.
    other_once c.args.inputs.now c.indexed_mine.new.inputs g.D.CountedRead.failed
    (g.E.CountedRead.failed c.args.trace.now + g.W.CountedWrite.failed c.args.out.now)
    (g.E.CountedRead.failed c.events_from.new.from + g.W.CountedWrite.failed c.args.out.now)
    (went c.in_ok-mine.mine c.in_ok-mine.ensures.kept)
    (first_of_two (g.E.CountedRead.failed c.args.trace.now) (g.W.CountedWrite.failed c.args.out.now)
    (g.E.CountedRead.failed c.events_from.new.from) (g.W.CountedWrite.failed c.args.out.now)
    (raised c.from_residual-in_err-events.result c.in_err-events.field-0.0 c.from_residual-in_err-events.ensures.1
    c.in_err-events.ensures.device.0 d) refl)

pub returns-in_err-events-clause-kept : goal.returns-in_err-events-clause-kept
returns-in_err-events-clause-kept g c = λ n. (
  went c.in_ok-mine.mine c.in_ok-mine.ensures.kept,
  stayed c.from_residual-in_err-events.result
      c.in_err-events.field-0.0 c.from_residual-in_err-events.ensures.1 c.in_err-events.ensures.kept n,
  refl,
)

pub returns-clause-device : goal.returns-clause-device
returns-clause-device g c = λ d.
    other_once c.args.inputs.now c.indexed_mine.new.inputs g.D.CountedRead.failed
    (g.E.CountedRead.failed c.args.trace.now + g.W.CountedWrite.failed c.args.out.now)
    (g.E.CountedRead.failed c.events_from.new.from + g.W.CountedWrite.failed c.replay_mine.new.out)
    (went c.in_ok-mine.mine c.in_ok-mine.ensures.kept)
    (second_of_two (g.E.CountedRead.failed c.args.trace.now) (g.W.CountedWrite.failed c.args.out.now)
    (g.E.CountedRead.failed c.events_from.new.from) (g.W.CountedWrite.failed c.replay_mine.new.out)
    (went c.in_ok-events.events c.in_ok-events.ensures.kept) (c.replay_mine.ensures.device.0 d))

pub returns-clause-kept : goal.returns-clause-kept
returns-clause-kept g c = λ n. (
  went c.in_ok-mine.mine c.in_ok-mine.ensures.kept,
  went c.in_ok-events.events c.in_ok-events.ensures.kept,
  c.replay_mine.ensures.kept n,
)
