use Rattle.fixed_worth.proofs.Common.{Err, refl, err_from_is_err_and}
use Rattle.option_words.specs.declared.method.Method.TheVariants.{PushRelabel}
use Rattle.solve_engines.proofs.SolveAnswered.{unsolved, answered}
use Rattle.engine_faults.proofs.Failed.{raised, stayed, went}
use Rattle.mine_inputs.proofs.MineDevices.{mine_once, other_once}
use Rattle.lock_free_engine.specs.LockFreeSolving.{SolvesWithoutLock, lock_free_group}
use Rattle.lock_free_engine.proofs.MineAnswers.{unread}
use Rattle.lock_free_engine.proofs.solving_engine.solve_lock_free_engine.Goals as goal

pub returns-in_err-mine-clause-answer : goal.returns-in_err-mine-clause-answer
returns-in_err-mine-clause-answer g c =
    let p = err_from_is_err_and c.from_residual.result c.from_residual.ensures.1 in
    let w = g.W.Write.contents c.args.out.now in
    let effort = c.args.asked.effort in
    rw (p.1, p.2)
    (unsolved c.args.inputs.now g.D.Read.remaining c.args.asked.factor
    (λ texts. SolvesWithoutLock texts effort.workers effort.steps w w (Err c.in_err-mine.field-0.0))
    lock_free_group PushRelabel effort.steps w c.in_err-mine.field-0.0 c.in_err-mine.ensures.read
    (λ texts f h. unread texts effort.workers effort.steps w c.in_err-mine.field-0.0 f h))

pub returns-clause-answer : goal.returns-clause-answer
returns-clause-answer g c =
    let effort = c.args.asked.effort in
    answered c.args.inputs.now g.D.Read.remaining c.args.asked.factor
    (λ texts. SolvesWithoutLock texts effort.workers effort.steps (g.W.Write.contents c.args.out.now)
    (g.W.Write.contents c.mine_by_lock_free_run.new.out) c.mine_by_lock_free_run.result)
    c.in_ok-mine.mine.nanos.items c.in_ok-mine.mine.rests c.in_ok-mine.mine.price c.in_ok-mine.ensures.read
    c.mine_by_lock_free_run.ensures.answer

pub returns-in_err-mine-clause-device : goal.returns-in_err-mine-clause-device
returns-in_err-mine-clause-device g c = λ d.
    mine_once c.args.inputs.now c.indexed_mine.new.inputs g.D.CountedRead.failed _ _
    (raised c.from_residual.result c.in_err-mine.field-0.0 c.from_residual.ensures.1 c.in_err-mine.ensures.device
    d) refl

pub returns-in_err-mine-clause-kept : goal.returns-in_err-mine-clause-kept
returns-in_err-mine-clause-kept g c = λ n.
    (stayed c.from_residual.result c.in_err-mine.field-0.0 c.from_residual.ensures.1 c.in_err-mine.ensures.kept n, refl)

pub returns-clause-device : goal.returns-clause-device
returns-clause-device g c = λ d.
    other_once c.args.inputs.now c.indexed_mine.new.inputs g.D.CountedRead.failed
    (g.W.CountedWrite.failed c.args.out.now) (g.W.CountedWrite.failed c.mine_by_lock_free_run.new.out)
    (went c.in_ok-mine.mine c.in_ok-mine.ensures.kept) (c.mine_by_lock_free_run.ensures.device.0 d)

pub returns-clause-kept : goal.returns-clause-kept
returns-clause-kept g c = λ n.
    (went c.in_ok-mine.mine c.in_ok-mine.ensures.kept, c.mine_by_lock_free_run.ensures.kept n)
