use Rattle.fixed_worth.proofs.Common.{arith, subst, MatchResult}
use Rattle.closure_net.specs.Network.{NetView}
use Rattle.workers.specs.Auditing.{IsAudit, AuditRunFaultStands}
use Rattle.workers.proofs.AuditEnds.{answered, good_workers}
use Rattle.workers.proofs.auditing.solve_audited.Goals as goal

pub returns-clause-answer : goal.returns-clause-answer
returns-clause-answer g c =
    answered (λ s. s.flow) (λ s. s.history.items) (λ f. f.fault) (λ f. f.history.items) c.args.net.now c.args.workers
    c.args.steps c.args.room c.audit_of.result
    (subst (λ (n : NetView). MatchResult c.audit_of.result
    (λ s. IsAudit n c.args.steps c.args.room s.flow s.history.items)
    (λ f. AuditRunFaultStands n c.args.steps c.args.room f.fault f.history.items)) c.in_ok-board.ensures.net_is
    (c.audit_of.ensures c.args.room c.in_ok-board.ensures.room_is))

pub returns-clause-workers : goal.returns-clause-workers
returns-clause-workers g c =
    let some = c.if-workers-lt1.false in
    let few = c.if-workers-gt-MOST_WORKERS.false in
    good_workers (λ f. f.fault) c.args.workers c.audit_of.result (omega (arith, some)) (omega (arith, few))
