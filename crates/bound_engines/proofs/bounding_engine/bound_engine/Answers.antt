use Rattle.schedule_engines.specs.declared.plan_fault.PlanFault.TheVariants as plan
use Rattle.planned_mine.specs.declared.bound_fault.BoundFault.TheVariants as bound
use Rattle.check_engines.specs.Prelude.{factor_in}
use Rattle.bound_engines.proofs.Answered.{always_by, answered, unanswered}
use Rattle.planned_mine.proofs.TextsFailing.{Stands, beyond, of_beside, of_mine}
use Rattle.bound_engines.proofs.bounding_engine.bound_engine.Goals as goal

pub returns-in-Err-clause-answer : goal.returns-in-Err-clause-answer
returns-in-Err-clause-answer g c =
    unanswered c.args.inputs.now c.args.beside.now g.D.Read.remaining c.args.certificates.now g.C.Read.remaining
    (g.W.Write.contents c.args.out.now) (bound.Plan (plan.Engine c.in-Err.fault))

pub returns-in-Err-told_by_certificates-clause-answer : goal.returns-in-Err-told_by_certificates-clause-answer
returns-in-Err-told_by_certificates-clause-answer g c =
    unanswered c.args.inputs.now c.args.beside.now g.D.Read.remaining c.args.certificates.now g.C.Read.remaining
    (g.W.Write.contents c.args.out.now) c.in-Err-told_by_certificates.fault

pub returns-in-Ok-write_told-clause-answer : goal.returns-in-Ok-write_told-clause-answer
returns-in-Ok-write_told-clause-answer g c =
    let mine = c.in-Ok.mine in
    answered c.args.inputs.now c.args.beside.now g.D.Read.remaining c.args.certificates.now g.C.Read.remaining
    mine.worths mine.predecessors c.len.result c.way_count-ways.result c.len.ensures.is
    c.way_count-ways.ensures.is c.in-Ok-beside_from.beside c.in-Ok.ensures.read c.in-Ok-beside_from.ensures.read
    c.in-Ok-told_by_certificates.told c.in-Ok-told_by_certificates.ensures.told (g.W.Write.contents c.args.out.now)
    (g.W.Write.contents c.write_told.new.out) c.verdict_of.result c.verdict_of.ensures
    c.in-Ok-write_told.ensures.line

pub returns-in-Err-clause-fault : goal.returns-in-Err-clause-fault
returns-in-Err-clause-fault g c =
    let b = c.args.beside.now in
    let fault = bound.Plan (plan.Engine c.in-Err.fault) in
    always_by c.args.certificates.now g.C.Read.remaining
    (λ o text. Stands c.args.inputs.now b g.D.Read.remaining (factor_in text) fault)
    (λ o text. of_mine c.args.inputs.now b g.D.Read.remaining (factor_in text) c.in-Err.fault c.in-Err.ensures.read)

pub returns-in-Err-beside_from-clause-answer : goal.returns-in-Err-beside_from-clause-answer
returns-in-Err-beside_from-clause-answer g c =
    unanswered c.args.inputs.now c.args.beside.now g.D.Read.remaining c.args.certificates.now g.C.Read.remaining
    (g.W.Write.contents c.args.out.now) (bound.Plan c.in-Err-beside_from.fault)

pub returns-in-Err-beside_from-clause-fault : goal.returns-in-Err-beside_from-clause-fault
returns-in-Err-beside_from-clause-fault g c =
    let b = c.args.beside.now in
    let mine = c.in-Ok.mine in
    let fault = bound.Plan c.in-Err-beside_from.fault in
    always_by c.args.certificates.now g.C.Read.remaining
    (λ o text. Stands c.args.inputs.now b g.D.Read.remaining (factor_in text) fault) (λ o text.
    of_beside c.args.inputs.now b g.D.Read.remaining (factor_in text) mine.worths mine.predecessors c.len.result
    c.way_count-ways.result c.len.ensures.is c.way_count-ways.ensures.is c.in-Ok.ensures.read
    c.in-Err-beside_from.fault c.in-Err-beside_from.ensures.read)

pub returns-in-Err-told_by_certificates-clause-fault : goal.returns-in-Err-told_by_certificates-clause-fault
returns-in-Err-told_by_certificates-clause-fault g c =
    let b = c.args.beside.now in
    let fault = c.in-Err-told_by_certificates.fault in
    always_by c.args.certificates.now g.C.Read.remaining
    (λ o text. Stands c.args.inputs.now b g.D.Read.remaining (factor_in text) fault)
    (λ o text. beyond c.args.inputs.now b g.D.Read.remaining (factor_in text) fault
    c.in-Err-told_by_certificates.ensures.beyond)
