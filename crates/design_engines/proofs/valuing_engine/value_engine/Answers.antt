use Rattle.std.proofs.lemmas.Result.{err_from_is_err_and}
use Rattle.design_engines.proofs.Answered.{unread, design_unread, value_answer}
use Rattle.design_engines.proofs.valuing_engine.value_engine.Goals as goal

pub returns-in_err-mine-clause-answer : goal.returns-in_err-mine-clause-answer
returns-in_err-mine-clause-answer g c =
    let p = err_from_is_err_and c.from_residual.result c.from_residual.ensures.1 in
    rw (p.1, p.2)
    (unread c.args.inputs.now g.D.Read.remaining c.args.factor (g.E.Read.remaining c.args.design.now)
    (g.W.Write.contents c.args.out.now) c.in_err-mine.field-0.0 c.in_err-mine.ensures.read)

pub returns-in_err-marks-clause-answer : goal.returns-in_err-marks-clause-answer
returns-in_err-marks-clause-answer g c =
    let p = err_from_is_err_and c.from_residual-in_err-marks.result c.from_residual-in_err-marks.ensures.1 in
    let mine = c.in_ok-mine.mine in
    rw (p.1, p.2)
    (design_unread c.args.inputs.now g.D.Read.remaining c.args.factor (g.E.Read.remaining c.args.design.now)
    mine.worths mine.predecessors c.len.result c.len.ensures.is c.in_ok-mine.ensures.read
    (g.W.Write.contents c.args.out.now) c.in_err-marks.field-0.0 c.in_err-marks.ensures.read)

pub returns-clause-answer : goal.returns-clause-answer
returns-clause-answer g c =
    let mine = c.in_ok-mine.mine in
    value_answer c.args.inputs.now g.D.Read.remaining c.args.factor (g.E.Read.remaining c.args.design.now) mine.worths
    mine.predecessors c.len.result c.len.ensures.is c.in_ok-mine.ensures.read c.in_ok-nanos.nanos.items
    c.as_slice.result.now c.in_ok-marks.marks.items c.as_slice-2.result.now
    (g.W.Write.contents c.args.out.now) (g.W.Write.contents c.value_mine.new.out) c.value_mine.result
    c.in_ok-nanos.ensures c.as_slice.ensures.value c.as_slice-2.ensures.value c.in_ok-marks.ensures.read
    c.value_mine.ensures.answer
