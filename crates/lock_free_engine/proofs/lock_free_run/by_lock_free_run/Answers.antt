use Rattle.std.proofs.Common.{arith, inr, subst, sym}
use Rattle.solve_engines.specs.declared.certification.Uncertified.{Uncertified}
use Rattle.solve_engines.specs.Certification.{UncertifiedStands}
use Rattle.solve_engines.specs.declared.solvers.Unsolved.{Unsolved}
use Rattle.lock_free_engine.specs.LockFreeRuns.{LockFreeStands}
use Rattle.word_runner.specs.Openings.{AreNeitherOneNorTwo}
use Rattle.lock_free_engine.proofs.LockFreeAnswers.{check_overflows, fault_stands}
use Rattle.lock_free_engine.proofs.lock_free_run.by_lock_free_run.Goals as goal

pub returns-in-Err-Refused : goal.returns-in-Err-Refused
returns-in-Err-Refused g c =
    let refused = subst (λ (u : Uncertified). UncertifiedStands c.args.net.now c.in-Ok.solved.flow u)
    c.in-Err-Refused.field-0-is c.in-Err-Refused.ensures.answer in
    inr (check_overflows c.runs_are_tight.ensures c.args.net.now c.args.effort.workers c.args.effort.steps
    c.in-Ok.solved.flow c.in-Ok.solved.steps _ c.worths-worths.ensures.net c.in-Ok.ensures refused)

pub returns-in-Err : goal.returns-in-Err
returns-in-Err g c =
    let few : ¬ AreNeitherOneNorTwo c.args.effort.workers = λ bad. absurd
    (omega (arith, bad, c.args.effort.some, c.args.effort.few)) in
    subst (λ (u : Unsolved). LockFreeStands c.args.net.now c.args.effort.workers c.args.effort.steps u)
    (sym c.from.ensures)
    (fault_stands c.args.net.now c.args.effort.workers c.args.effort.steps c.in-Err.fault few c.in-Err.ensures)
