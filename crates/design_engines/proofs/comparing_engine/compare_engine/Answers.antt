use Rattle.std.proofs.lemmas.Result.{err_from_is_err_and}
use Rattle.design_engines.specs.Told.{design_view}
use Rattle.design_engines.proofs.ComparedAnswers.{unread, design_unread, not_paired, paired}
use Rattle.design_engines.proofs.comparing_engine.compare_engine.Goals as goal

pub returns-in_err-mine-clause-answer : goal.returns-in_err-mine-clause-answer
returns-in_err-mine-clause-answer g c =
    let p = err_from_is_err_and c.from_residual.result c.from_residual.ensures.1 in
    rw (p.1, p.2)
    (unread c.args.inputs.now g.D.Read.remaining (g.E.Read.remaining c.args.design.now)
    (g.C.Read.remaining c.args.certificate.now) (g.W.Write.contents c.args.out.now) c.in_err-mine.field-0.0
    c.in_err-mine.ensures.read)

pub returns-in_err-marks-clause-answer : goal.returns-in_err-marks-clause-answer
returns-in_err-marks-clause-answer g c =
    let p = err_from_is_err_and c.from_residual-in_err-marks.result c.from_residual-in_err-marks.ensures.1 in
    let mine = c.in_ok-mine.mine in
    rw (p.1, p.2)
    (design_unread c.args.inputs.now g.D.Read.remaining (g.E.Read.remaining c.args.design.now)
    (g.C.Read.remaining c.args.certificate.now) mine.worths mine.predecessors c.len.result c.len.ensures.is
    c.in_ok-mine.ensures.read
    (g.W.Write.contents c.args.out.now) c.in_err-marks.field-0.0 c.in_err-marks.ensures.read)

pub returns-in_err-beside-clause-answer : goal.returns-in_err-beside-clause-answer
returns-in_err-beside-clause-answer g c =
    let p = err_from_is_err_and c.from_residual-in_err-beside.result c.from_residual-in_err-beside.ensures.1 in
    let mine = c.in_ok-mine.mine in
    rw (p.1, p.2)
    (not_paired c.args.inputs.now g.D.Read.remaining (g.E.Read.remaining c.args.design.now)
    (g.C.Read.remaining c.args.certificate.now) mine.worths mine.predecessors c.len.result c.len.ensures.is
    c.in_ok-mine.ensures.read
    c.in_ok-marks.marks.items c.in_ok-marks.ensures.read (g.W.Write.contents c.args.out.now) c.in_err-beside.field-0.0
    c.in_err-beside.ensures.0)

pub returns-clause-answer : goal.returns-clause-answer
returns-clause-answer g c =
    let mine = c.in_ok-mine.mine in
    let b = c.in_ok-beside.beside in
    paired c.args.inputs.now g.D.Read.remaining (g.E.Read.remaining c.args.design.now)
    (g.C.Read.remaining c.args.certificate.now) mine.worths mine.predecessors c.len.result c.len.ensures.is
    c.in_ok-mine.ensures.read
    c.in_ok-marks.marks.items c.in_ok-marks.ensures.read (design_view b.valued) b.judgement
    (g.W.Write.contents c.args.out.now) (g.W.Write.contents c.tell_beside.new.out) c.tell_beside.result
    c.in_ok-beside.ensures.0 c.tell_beside.ensures.answer
