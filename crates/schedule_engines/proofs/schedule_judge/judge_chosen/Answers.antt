use Rattle.std.proofs.Common.{ℕ, subst}
use Rattle.std.proofs.lemmas.Result.{err_from_is_err_and}
use Rattle.schedule_engines.specs.Choice.{AreChosen, planned_as}
use Rattle.schedule_engines.proofs.Chosen.{planned}
use Rattle.schedule_engines.proofs.Scheduled.{judged_told}
use Rattle.schedule_engines.proofs.schedule_judge.judge_chosen.Goals as goal

pub returns-in_err-chosen-clause-told : goal.returns-in_err-chosen-clause-told
returns-in_err-chosen-clause-told c = λ texts p u s mine read.
    let e = err_from_is_err_and c.from_residual.result c.from_residual.ensures.1 in
    rw (e.1, e.2) tt

pub returns-clause-told : goal.returns-clause-told
returns-clause-told c = λ texts p u s mine read.
    let w = c.args.worths.now in
    let rests = c.args.base.now in
    let r = c.args.read.now in
    let x = c.in_ok-chosen.chosen in
    let chosen = subst (λ (i : ℕ). AreChosen w c.args.factor i r x.nanos.items x.uses.items x.schedule.items)
    c.len.ensures.is c.in_ok-chosen.ensures in
    judged_told texts p u s (planned_as rests r x.nanos.items x.uses.items x.schedule.items)
    (planned texts c.args.factor w rests r x.nanos.items x.uses.items x.schedule.items p u s mine read chosen)
    c.judged_of.result c.judged_of.ensures.is
