use Rattle.std.proofs.lemmas.Result.{err_from_is_err_and}
use Rattle.replay_engines.proofs.Comings.{replayed, lines_failed}
use Rattle.replay_engines.proofs.replayed_mine.replay_mine.Goals as goal

pub returns-in_err-write_outcome-clause-answer : goal.returns-in_err-write_outcome-clause-answer
returns-in_err-write_outcome-clause-answer g c = λ texts trace read events.
    let p = err_from_is_err_and c.from_residual-in_err-write_outcome.result
    c.from_residual-in_err-write_outcome.ensures.1 in
    rw (p.1, p.2)
    (lines_failed texts c.args.group trace c.in_ok-outcome.outcome (g.W.Write.contents c.args.out.now)
    (g.W.Write.contents c.write_outcome.new.out) c.in_err-write_outcome.field-0.0
    (replayed texts c.args.group trace c.args.events.now c.in_ok-outcome.outcome
    (c.in_ok-outcome.ensures.comes texts read) events) c.in_err-write_outcome.ensures.fault)
