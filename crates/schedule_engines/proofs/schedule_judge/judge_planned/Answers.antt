use Rattle.std.proofs.lemmas.Result.{err_from_is_err_and}
use Rattle.schedule_value.specs.Judging.{judged_view}
use Rattle.schedule_engines.proofs.Told.{lines_failed, unjudged}
use Rattle.schedule_engines.proofs.schedule_judge.judge_planned.Goals as goal

pub returns-in_err-judged-clause-answer : goal.returns-in_err-judged-clause-answer
returns-in_err-judged-clause-answer g c = λ texts periods uses schedule mine read.
    let p = err_from_is_err_and c.from_residual.result c.from_residual.ensures.1 in
    let e = c.in_err-judged.field-0.0 in
    rw (p.1, p.2)
    (unjudged texts periods uses schedule (g.W.Write.contents c.args.out.now) e
    (c.in_err-judged.ensures.told texts periods uses schedule mine read))

pub returns-in_err-write_schedule-clause-answer : goal.returns-in_err-write_schedule-clause-answer
returns-in_err-write_schedule-clause-answer g c = λ texts periods uses schedule mine read.
    let v = judged_view c.in_ok-judged.judged in
    let p = err_from_is_err_and c.from_residual-in_err-write_schedule.result
    c.from_residual-in_err-write_schedule.ensures.1 in
    rw (p.1, p.2)
    (lines_failed texts periods uses schedule v (g.W.Write.contents c.args.out.now)
    (g.W.Write.contents c.write_schedule.new.out) c.in_err-write_schedule.field-0.0
    (c.in_ok-judged.ensures.told texts periods uses schedule mine read).0 c.in_err-write_schedule.ensures.fault)

pub returns-clause-answer : goal.returns-clause-answer
returns-clause-answer g c = λ texts periods uses schedule mine read. (
  judged_view c.in_ok-judged.judged,
  (c.in_ok-judged.ensures.told texts periods uses schedule mine read).0,
  c.is_clear.ensures,
  c.in_ok-write_schedule.ensures.lines,
)
