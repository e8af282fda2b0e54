use Rattle.workers.proofs.AuditEnds.{cut_off, overflows, fills, settles}
use Rattle.workers.proofs.auditing.audit_of.Goals as goal

pub returns-in-Stuck : goal.returns-in-Stuck
returns-in-Stuck g c = λ room r. overflows c.args.board c.finish.new.self c.args.limit c.most_steps.result
    c.most_steps.ensures c.in-Stuck.ensures.audited c.in-Stuck.ensures.goes_on room r _ _ c.ended.ensures.fault
    c.ended.ensures.history c.in-Stuck.ensures.end

pub returns-in-Limit : goal.returns-in-Limit
returns-in-Limit g c = λ room r. cut_off c.args.board c.finish.new.self c.args.limit c.most_steps.result
    c.most_steps.ensures c.in-Limit.ensures.audited c.in-Limit.ensures.goes_on room r _ _
    c.ended-in-Limit.ensures.fault c.ended-in-Limit.ensures.history c.in-Limit.ensures.end

pub returns-in-Full : goal.returns-in-Full
returns-in-Full g c = λ room r. fills c.args.board c.finish.new.self c.args.limit c.most_steps.result
    c.most_steps.ensures c.in-Full.ensures.audited c.in-Full.ensures.goes_on room r _ _ c.ended-in-Full.ensures.fault
    c.ended-in-Full.ensures.history c.in-Full.ensures.end

pub returns : goal.returns
returns g c = λ room r. settles c.args.board c.finish.new.self c.args.limit c.most_steps.result c.most_steps.ensures
    c.finish.ensures.audited c.finish.ensures.goes_on room r _ _ _ c.in-Ok.ensures
