use Rattle.std.proofs.Common.{rules, ◌≡◌, ◌+◌}
use Rattle.std.proofs.lemmas.Result.{err_from_is_err_and}
use Rattle.mine_inputs.specs.Prelude.{blocks_valued}
use Rattle.closure_net.specs.declared.net.NetFault.TheVariants as net_fault
use Rattle.engine_faults.specs.declared.engine_fault.EngineFault.TheVariants as engine
use Rattle.schedule_engines.specs.declared.plan_fault.PlanFault.TheVariants as plan
use Rattle.engine_faults.proofs.Failed.{second_of_two, went}
use Rattle.mine_inputs.proofs.MineDevices.{other_once}
use Rattle.schedule_engines.specs.PlanDevices.{plan_failures}
use Rattle.schedule_engines.proofs.Told.{mine_unread, plan_unread, schedule_answer, wrong_length}
use Rattle.schedule_engines.proofs.scheduling_engine.schedule_engine.Goals as goal

pub returns-in_err-worths-clause-answer : goal.returns-in_err-worths-clause-answer
returns-in_err-worths-clause-answer g c =
    let b = c.args.beside.now in
    let left = g.D.Read.remaining in
    let p = err_from_is_err_and c.from_residual.result c.from_residual.ensures.1 in
    rw (p.1, p.2)
    (mine_unread c.args.inputs.now left c.args.factor (left b.periods) (left b.uses) (left b.schedule)
    (g.W.Write.contents c.args.out.now) c.in_err-worths.field-0.0 c.in_err-worths.ensures.read)

pub returns-in_err-read-clause-answer : goal.returns-in_err-read-clause-answer
returns-in_err-read-clause-answer g c =
    let b = c.args.beside.now in
    let left = g.D.Read.remaining in
    let mine = c.in_ok-worths.field-0 in
    let p = err_from_is_err_and c.from_residual-in_err-read.result c.from_residual-in_err-read.ensures.1 in
    rw (p.1, p.2)
    (plan_unread c.args.inputs.now left c.args.factor (left b.periods) (left b.uses) (left b.schedule) mine.worths
    mine.predecessors c.len.result c.way_count.result c.len.ensures.is c.way_count.ensures.is
    c.in_ok-worths.ensures.read
    (g.W.Write.contents c.args.out.now) c.in_err-read.field-0.0 c.in_err-read.ensures.read)

pub returns-then-len-clause-answer : goal.returns-then-len-clause-answer
returns-then-len-clause-answer g c =
    let b = c.args.beside.now in
    let left = g.D.Read.remaining in
    let mine = c.in_ok-worths.field-0 in
    let other : ¬ (blocks_valued mine.worths ≡ c.len.result) = search rules in
    wrong_length c.args.inputs.now left c.args.factor (left b.periods) (left b.uses) (left b.schedule) mine.worths
    mine.predecessors c.len.result c.way_count.result c.len.ensures.is c.way_count.ensures.is
    c.in_ok-worths.ensures.read
    (g.W.Write.contents c.args.out.now) (plan.Engine (engine.Model net_fault.WrongLength)) other

pub returns-clause-answer : goal.returns-clause-answer
returns-clause-answer g c =
    let b = c.args.beside.now in
    let left = g.D.Read.remaining in
    let mine = c.in_ok-worths.field-0 in
    schedule_answer c.args.inputs.now left c.args.factor (left b.periods) (left b.uses) (left b.schedule) mine.worths
    mine.predecessors c.len.result c.way_count.result c.len.ensures.is c.way_count.ensures.is
    c.in_ok-worths.ensures.read
    c.in_ok-read.read (g.W.Write.contents c.args.out.now) (g.W.Write.contents c.judge_planned.new.out)
    c.judge_planned.result c.in_ok-read.ensures.read c.judge_planned.ensures.answer

pub returns-clause-device : goal.returns-clause-device
returns-clause-device g c = λ d.
    let old = plan_failures c.args.beside.now g.D.CountedRead.failed in
    let new = plan_failures c.plan_from.new.beside g.D.CountedRead.failed in
    let before = g.W.CountedWrite.failed c.args.out.now in
    let after = g.W.CountedWrite.failed c.judge_planned.new.out in
    let read : new ≡ old = c.in_ok-read.ensures.kept (λ e. cc) in
    other_once c.args.inputs.now c.listed_mine.new.inputs g.D.CountedRead.failed (old + before) (new + after)
    (went c.in_ok-worths.field-0 c.in_ok-worths.ensures.kept)
    (second_of_two old before new after read (c.judge_planned.ensures.device.0 d))
