use Rattle.schedule_engines.specs.declared.plan_fault.PlanFault.TheVariants as plan
use Rattle.planned_mine.specs.declared.bound_fault.BoundFault.TheVariants as bound
use Rattle.check_engines.specs.Prelude.{factor_in}
use Rattle.bound_engines.proofs.Answered.{always_by}
use Rattle.gap_engines.proofs.GapsTold.{compared_answer, uncompared}
use Rattle.gap_engines.proofs.SchedulesFailing.{AnswersBeside, StandsBeside, answers_three, beyond_three, of_compared}
use Rattle.gap_engines.proofs.SchedulesFailing.{of_mine_three}
use Rattle.gap_engines.proofs.comparing_engine.compare_schedule_engine.Goals as goal

pub returns-in-Err-clause-answer : goal.returns-in-Err-clause-answer
returns-in-Err-clause-answer g c =
    let b = c.args.beside.now in
    uncompared c.args.inputs.now g.D.Read.remaining c.args.certificates.now g.C.Read.remaining
    (g.D.Read.remaining b.periods) (g.D.Read.remaining b.uses) (g.D.Read.remaining b.schedule)
    (g.W.Write.contents c.args.out.now) (bound.Plan (plan.Engine c.in-Err.fault))

pub returns-in-Err-compared_by-clause-answer : goal.returns-in-Err-compared_by-clause-answer
returns-in-Err-compared_by-clause-answer g c =
    let b = c.args.beside.now in
    uncompared c.args.inputs.now g.D.Read.remaining c.args.certificates.now g.C.Read.remaining
    (g.D.Read.remaining b.periods) (g.D.Read.remaining b.uses) (g.D.Read.remaining b.schedule)
    (g.W.Write.contents c.args.out.now) c.in-Err-compared_by.fault

pub returns-clause-answer : goal.returns-clause-answer
returns-clause-answer g c =
    let b = c.args.beside.now in
    let mine = c.in-Ok.mine in
    compared_answer c.args.inputs.now g.D.Read.remaining c.args.certificates.now g.C.Read.remaining
    (g.D.Read.remaining b.periods) (g.D.Read.remaining b.uses) (g.D.Read.remaining b.schedule)
    mine.worths mine.predecessors c.len.result c.way_count-ways.result c.len.ensures.is c.way_count-ways.ensures.is
    c.in-Ok-plan_priced_from.read c.in-Ok.ensures.read c.in-Ok-plan_priced_from.ensures.read
    c.in-Ok-compared_by.found c.in-Ok-compared_by.ensures.told (g.W.Write.contents c.args.out.now)
    (g.W.Write.contents c.tell_found.new.out) c.tell_found.result c.tell_found.ensures.answer

pub returns-in-Err-clause-fault : goal.returns-in-Err-clause-fault
returns-in-Err-clause-fault g c =
    let b = c.args.beside.now in
    let left = g.D.Read.remaining in
    let fault = bound.Plan (plan.Engine c.in-Err.fault) in
    always_by c.args.certificates.now g.C.Read.remaining
    (λ o text. StandsBeside c.args.inputs.now left (factor_in text) (left b.periods) (left b.uses)
    (left b.schedule) fault) (λ o text.
    of_mine_three c.args.inputs.now left (factor_in text) (left b.periods) (left b.uses) (left b.schedule)
    c.in-Err.fault c.in-Err.ensures.read)

pub returns-in-Err-plan_priced_from-clause-answer : goal.returns-in-Err-plan_priced_from-clause-answer
returns-in-Err-plan_priced_from-clause-answer g c =
    let b = c.args.beside.now in
    uncompared c.args.inputs.now g.D.Read.remaining c.args.certificates.now g.C.Read.remaining
    (g.D.Read.remaining b.periods) (g.D.Read.remaining b.uses) (g.D.Read.remaining b.schedule)
    (g.W.Write.contents c.args.out.now) (bound.Plan c.in-Err-plan_priced_from.fault)

pub returns-in-Err-plan_priced_from-clause-fault : goal.returns-in-Err-plan_priced_from-clause-fault
returns-in-Err-plan_priced_from-clause-fault g c =
    let b = c.args.beside.now in
    let left = g.D.Read.remaining in
    let mine = c.in-Ok.mine in
    let fault = bound.Plan c.in-Err-plan_priced_from.fault in
    always_by c.args.certificates.now g.C.Read.remaining
    (λ o text. StandsBeside c.args.inputs.now left (factor_in text) (left b.periods) (left b.uses)
    (left b.schedule) fault) (λ o text.
    of_compared c.args.inputs.now left (factor_in text) (left b.periods) (left b.uses) (left b.schedule) mine.worths
    mine.predecessors c.len.result c.way_count-ways.result c.len.ensures.is c.way_count-ways.ensures.is
    c.in-Ok.ensures.read c.in-Err-plan_priced_from.fault c.in-Err-plan_priced_from.ensures.read)

pub returns-in-Err-compared_by-clause-fault : goal.returns-in-Err-compared_by-clause-fault
returns-in-Err-compared_by-clause-fault g c =
    let b = c.args.beside.now in
    let left = g.D.Read.remaining in
    let fault = c.in-Err-compared_by.fault in
    always_by c.args.certificates.now g.C.Read.remaining
    (λ o text. StandsBeside c.args.inputs.now left (factor_in text) (left b.periods) (left b.uses)
    (left b.schedule) fault) (λ o text.
    beyond_three c.args.inputs.now left (factor_in text) (left b.periods) (left b.uses) (left b.schedule) fault
    c.in-Err-compared_by.ensures.beyond)

pub returns-clause-fault : goal.returns-clause-fault
returns-clause-fault g c =
    let b = c.args.beside.now in
    let left = g.D.Read.remaining in
    always_by c.args.certificates.now g.C.Read.remaining
    (λ o text. AnswersBeside c.args.inputs.now left (factor_in text) (left b.periods) (left b.uses)
    (left b.schedule) c.tell_found.result) (λ o text.
    answers_three c.args.inputs.now left (factor_in text) (left b.periods) (left b.uses) (left b.schedule)
    c.tell_found.result c.tell_found.ensures.beyond)
