use Rattle.fixed_worth.proofs.Common.{Err, refl, err_from_is_err_and}
use Rattle.solve_engines.specs.Solving.{Solves}
use Rattle.solve_engines.proofs.SolveAnswered.{unsolved, answered}
use Rattle.engine_faults.proofs.Failed.{raised, stayed, went}
use Rattle.mine_inputs.proofs.MineDevices.{mine_once, other_once}
use Rattle.solve_engines.proofs.solving_engine.solve_engine.Goals as goal

pub returns-in_err-mine-clause-answer : goal.returns-in_err-mine-clause-answer
returns-in_err-mine-clause-answer g c =
    let p = err_from_is_err_and c.from_residual.result c.from_residual.ensures.1 in
    let w = g.W.Write.contents c.args.out.now in
    let asked = c.args.asked in
    rw (p.1, p.2)
    (unsolved c.args.inputs.now g.D.Read.remaining asked.factor
    (λ texts. Solves texts asked.group asked.effort.method asked.effort.steps w w (Err c.in_err-mine.field-0.0))
    asked.group asked.effort.method asked.effort.steps w c.in_err-mine.field-0.0 c.in_err-mine.ensures.read
    (λ texts f h. h))

pub returns-clause-answer : goal.returns-clause-answer
returns-clause-answer g c =
    let asked = c.args.asked in
    answered c.args.inputs.now g.D.Read.remaining asked.factor
    (λ texts. Solves texts asked.group asked.effort.method asked.effort.steps (g.W.Write.contents c.args.out.now)
    (g.W.Write.contents c.solve_held.new.out) c.solve_held.result)
    c.in_ok-mine.mine.nanos.items c.in_ok-mine.mine.pairs c.in_ok-mine.mine.price c.in_ok-mine.ensures.read
    c.solve_held.ensures.answer

pub returns-in_err-mine-clause-device : goal.returns-in_err-mine-clause-device
returns-in_err-mine-clause-device g c = λ d.
    mine_once c.args.inputs.now c.held_to_solve.new.inputs g.D.CountedRead.failed _ _
    (raised c.from_residual.result c.in_err-mine.field-0.0 c.from_residual.ensures.1 c.in_err-mine.ensures.device
    d) refl

pub returns-in_err-mine-clause-kept : goal.returns-in_err-mine-clause-kept
returns-in_err-mine-clause-kept g c = λ n.
    (stayed c.from_residual.result c.in_err-mine.field-0.0 c.from_residual.ensures.1 c.in_err-mine.ensures.kept n, refl)

pub returns-clause-device : goal.returns-clause-device
returns-clause-device g c = λ d.
    other_once c.args.inputs.now c.held_to_solve.new.inputs g.D.CountedRead.failed
    (g.W.CountedWrite.failed c.args.out.now) (g.W.CountedWrite.failed c.solve_held.new.out)
    (went c.in_ok-mine.mine c.in_ok-mine.ensures.kept) (c.solve_held.ensures.device.0 d)

pub returns-clause-kept : goal.returns-clause-kept
returns-clause-kept g c = λ n. (went c.in_ok-mine.mine c.in_ok-mine.ensures.kept, c.solve_held.ensures.kept n)
