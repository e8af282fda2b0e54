use Rattle.fixed_worth.proofs.Common.{◌+◌, Ok, refl, err_from_is_err_and}
use Rattle.check_engines.proofs.Answered.{unread, unjudged, untold, told, complete}
use Rattle.engine_faults.proofs.Failed.{raised, stayed, went, well, first_of_two, second_of_two}
use Rattle.mine_inputs.proofs.MineDevices.{mine_once, other_once}
use Rattle.check_engines.proofs.checking_engine.check_engine.Goals as goal

pub returns-in_err-mine-clause-answer : goal.returns-in_err-mine-clause-answer
returns-in_err-mine-clause-answer g c =
    let p = err_from_is_err_and c.from_residual.result c.from_residual.ensures.1 in
    rw (p.1, p.2)
    (unread c.args.inputs.now g.D.Read.remaining (g.C.Read.remaining c.args.certificate.now)
    (g.W.Write.contents c.args.out.now) c.in_err-mine.field-0.0 c.in_err-mine.ensures.read)

pub returns-in_err-judgement-clause-answer : goal.returns-in_err-judgement-clause-answer
returns-in_err-judgement-clause-answer g c =
    let p = err_from_is_err_and c.from_residual-in_err-judgement.result c.from_residual-in_err-judgement.ensures.1 in
    rw (p.1, p.2)
    (unjudged c.args.inputs.now g.D.Read.remaining (g.C.Read.remaining c.args.certificate.now)
    c.in_ok-mine.mine.worths c.in_ok-mine.mine.predecessors c.in_ok-mine.ensures.read
    (g.W.Write.contents c.args.out.now) c.in_err-judgement.field-0.0 c.in_err-judgement.ensures.0)

pub returns-in_err-write_judgement-clause-answer : goal.returns-in_err-write_judgement-clause-answer
returns-in_err-write_judgement-clause-answer g c =
    let p = err_from_is_err_and c.from_residual-in_err-write_judgement.result
    c.from_residual-in_err-write_judgement.ensures.1 in
    rw (p.1, p.2)
    (untold c.args.inputs.now g.D.Read.remaining (g.C.Read.remaining c.args.certificate.now) c.in_ok-mine.mine.worths
    c.in_ok-mine.mine.predecessors c.in_ok-mine.ensures.read (g.W.Write.contents c.args.out.now)
    (g.W.Write.contents c.write_judgement.new.out) c.in_ok-judgement.judgement c.in_err-write_judgement.field-0.0
    c.in_ok-judgement.ensures.0 c.in_err-write_judgement.ensures.fault)

pub returns-clause-answer : goal.returns-clause-answer
returns-clause-answer g c =
    told c.args.inputs.now g.D.Read.remaining (g.C.Read.remaining c.args.certificate.now) c.in_ok-mine.mine.worths
    c.in_ok-mine.mine.predecessors c.in_ok-mine.ensures.read (g.W.Write.contents c.args.out.now)
    (g.W.Write.contents c.write_judgement.new.out) c.in_ok-judgement.judgement c.verdict.result c.verdict.ensures
    c.in_ok-judgement.ensures.0 c.in_ok-write_judgement.ensures.line

pub returns-in_err-mine-clause-complete : goal.returns-in_err-mine-clause-complete
returns-in_err-mine-clause-complete g c =
    complete c.args.inputs.now g.D.Read.remaining (g.C.Read.remaining c.args.certificate.now)
    (g.W.Write.contents c.args.out.now) (g.W.Write.contents c.args.out.now) _
    (returns-in_err-mine-clause-answer g c)

pub returns-in_err-judgement-clause-complete : goal.returns-in_err-judgement-clause-complete
returns-in_err-judgement-clause-complete g c =
    complete c.args.inputs.now g.D.Read.remaining (g.C.Read.remaining c.args.certificate.now)
    (g.W.Write.contents c.args.out.now) (g.W.Write.contents c.args.out.now) _
    (returns-in_err-judgement-clause-answer g c)

pub returns-in_err-write_judgement-clause-complete : goal.returns-in_err-write_judgement-clause-complete
returns-in_err-write_judgement-clause-complete g c =
    complete c.args.inputs.now g.D.Read.remaining (g.C.Read.remaining c.args.certificate.now)
    (g.W.Write.contents c.args.out.now) (g.W.Write.contents c.write_judgement.new.out) _
    (returns-in_err-write_judgement-clause-answer g c)

pub returns-clause-complete : goal.returns-clause-complete
returns-clause-complete g c =
    complete c.args.inputs.now g.D.Read.remaining (g.C.Read.remaining c.args.certificate.now)
    (g.W.Write.contents c.args.out.now) (g.W.Write.contents c.write_judgement.new.out) (Ok c.verdict.result)
    (returns-clause-answer g c)

pub returns-in_err-mine-clause-device : goal.returns-in_err-mine-clause-device
returns-in_err-mine-clause-device g c = λ d.
    mine_once c.args.inputs.now c.held_mine.new.inputs g.D.CountedRead.failed _ _
    (raised c.from_residual.result c.in_err-mine.field-0.0 c.from_residual.ensures.1 c.in_err-mine.ensures.device
    d) refl

pub returns-in_err-mine-clause-kept : goal.returns-in_err-mine-clause-kept
returns-in_err-mine-clause-kept g c = λ n. (
  stayed c.from_residual.result c.in_err-mine.field-0.0 c.from_residual.ensures.1 c.in_err-mine.ensures.kept n,
  refl,
  refl,
)

pub returns-in_err-judgement-clause-device : goal.returns-in_err-judgement-clause-device
returns-in_err-judgement-clause-device g c = λ d.
    other_once c.args.inputs.now c.held_mine.new.inputs g.D.CountedRead.failed
    (g.C.CountedRead.failed c.args.certificate.now + g.W.CountedWrite.failed c.args.out.now)
    (g.C.CountedRead.failed c.replace_with.new.dest + g.W.CountedWrite.failed c.args.out.now)
    (went c.in_ok-mine.mine c.in_ok-mine.ensures.kept)
    (first_of_two (g.C.CountedRead.failed c.args.certificate.now) (g.W.CountedWrite.failed c.args.out.now)
    (g.C.CountedRead.failed c.replace_with.new.dest) (g.W.CountedWrite.failed c.args.out.now)
    (raised c.from_residual-in_err-judgement.result c.in_err-judgement.field-0.0
    c.from_residual-in_err-judgement.ensures.1 c.in_err-judgement.ensures.1.0 d) refl)

pub returns-in_err-judgement-clause-kept : goal.returns-in_err-judgement-clause-kept
returns-in_err-judgement-clause-kept g c = λ n. (
  went c.in_ok-mine.mine c.in_ok-mine.ensures.kept,
  stayed c.from_residual-in_err-judgement.result
      c.in_err-judgement.field-0.0 c.from_residual-in_err-judgement.ensures.1 c.in_err-judgement.ensures.1.1 n,
  refl,
)

pub returns-in_err-write_judgement-clause-device : goal.returns-in_err-write_judgement-clause-device
returns-in_err-write_judgement-clause-device g c = λ d.
    other_once c.args.inputs.now c.held_mine.new.inputs g.D.CountedRead.failed
    (g.C.CountedRead.failed c.args.certificate.now + g.W.CountedWrite.failed c.args.out.now)
    (g.C.CountedRead.failed c.replace_with.new.dest + g.W.CountedWrite.failed c.write_judgement.new.out)
    (went c.in_ok-mine.mine c.in_ok-mine.ensures.kept)
    (second_of_two (g.C.CountedRead.failed c.args.certificate.now) (g.W.CountedWrite.failed c.args.out.now)
    (g.C.CountedRead.failed c.replace_with.new.dest) (g.W.CountedWrite.failed c.write_judgement.new.out)
    (went c.in_ok-judgement.judgement c.in_ok-judgement.ensures.1.1)
    (raised c.from_residual-in_err-write_judgement.result c.in_err-write_judgement.field-0.0
    c.from_residual-in_err-write_judgement.ensures.1 c.in_err-write_judgement.ensures.device.0 d))

pub returns-in_err-write_judgement-clause-kept : goal.returns-in_err-write_judgement-clause-kept
returns-in_err-write_judgement-clause-kept g c = λ n. (
  went c.in_ok-mine.mine c.in_ok-mine.ensures.kept,
  went c.in_ok-judgement.judgement c.in_ok-judgement.ensures.1.1,
  stayed c.from_residual-in_err-write_judgement.result c.in_err-write_judgement.field-0.0
      c.from_residual-in_err-write_judgement.ensures.1 c.in_err-write_judgement.ensures.kept n,
)

pub returns-clause-device : goal.returns-clause-device
returns-clause-device g c = λ d. absurd (well c.verdict.result d)

pub returns-clause-kept : goal.returns-clause-kept
returns-clause-kept g c = λ n. (
  went c.in_ok-mine.mine c.in_ok-mine.ensures.kept,
  went c.in_ok-judgement.judgement c.in_ok-judgement.ensures.1.1,
  went tt c.in_ok-write_judgement.ensures.kept,
)
