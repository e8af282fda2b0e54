use Rattle.fixed_worth.proofs.Common.{◌+◌, Err, refl, err_from_is_err_and}
use Rattle.option_words.specs.declared.method.Method.TheVariants.{PushRelabel}
use Rattle.solve_engines.proofs.SolveAnswered.{unsolved, answered}
use Rattle.engine_faults.proofs.Failed.{raised, stayed, went}
use Rattle.mine_inputs.proofs.MineDevices.{mine_once, other_once}
use Rattle.traced_engine.specs.TracedRuns.{Traces}
use Rattle.traced_engine.proofs.MineAnswers.{untraced}
use Rattle.traced_engine.proofs.tracing_engine.solve_traced_engine.Goals as goal

pub returns-in_err-mine-clause-answer : goal.returns-in_err-mine-clause-answer
returns-in_err-mine-clause-answer g c =
    let p = err_from_is_err_and c.from_residual.result c.from_residual.ensures.1 in
    let t = g.V.Write.contents c.args.outputs.now.trace in
    let w = g.W.Write.contents c.args.outputs.now.out in
    let asked = c.args.asked in
    rw (p.1, p.2)
    (unsolved c.args.inputs.now g.D.Read.remaining asked.factor
    (λ texts. Traces texts asked.group asked.effort.steps asked.room t t w w (Err c.in_err-mine.field-0.0))
    asked.group PushRelabel asked.effort.steps w c.in_err-mine.field-0.0 c.in_err-mine.ensures.read
    (λ texts f h. untraced texts asked.group asked.effort.steps asked.room t w c.in_err-mine.field-0.0 h))

pub returns-clause-answer : goal.returns-clause-answer
returns-clause-answer g c =
    let asked = c.args.asked in
    answered c.args.inputs.now g.D.Read.remaining asked.factor
    (λ texts. Traces texts asked.group asked.effort.steps asked.room (g.V.Write.contents c.args.outputs.now.trace)
    (g.V.Write.contents c.trace_mine.new.outputs.trace) (g.W.Write.contents c.args.outputs.now.out)
    (g.W.Write.contents c.trace_mine.new.outputs.out) c.trace_mine.result)
    c.in_ok-mine.mine.nanos.items c.in_ok-mine.mine.rests c.in_ok-mine.mine.price c.in_ok-mine.ensures.read
    c.trace_mine.ensures.answer

pub returns-in_err-mine-clause-device : goal.returns-in_err-mine-clause-device
returns-in_err-mine-clause-device g c = λ d.
    mine_once c.args.inputs.now c.indexed_mine.new.inputs g.D.CountedRead.failed _ _
    (raised c.from_residual.result c.in_err-mine.field-0.0 c.from_residual.ensures.1 c.in_err-mine.ensures.device
    d) refl

pub returns-in_err-mine-clause-kept : goal.returns-in_err-mine-clause-kept
returns-in_err-mine-clause-kept g c = λ n. (
  stayed c.from_residual.result c.in_err-mine.field-0.0 c.from_residual.ensures.1 c.in_err-mine.ensures.kept n,
  refl,
  refl,
)

pub returns-clause-device : goal.returns-clause-device
returns-clause-device g c = λ d.
    other_once c.args.inputs.now c.indexed_mine.new.inputs g.D.CountedRead.failed
    (g.V.CountedWrite.failed c.args.outputs.now.trace + g.W.CountedWrite.failed c.args.outputs.now.out)
    (g.V.CountedWrite.failed c.trace_mine.new.outputs.trace + g.W.CountedWrite.failed
    c.trace_mine.new.outputs.out) (went c.in_ok-mine.mine c.in_ok-mine.ensures.kept) (c.trace_mine.ensures.device d)

pub returns-clause-kept : goal.returns-clause-kept
returns-clause-kept g c = λ n.
    let k = c.trace_mine.ensures.kept n in
    (went c.in_ok-mine.mine c.in_ok-mine.ensures.kept, k.0, k.1)
