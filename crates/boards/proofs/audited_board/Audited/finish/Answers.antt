use Rattle.fixed_worth.proofs.Common.{◌≡◌, ◌≤◌, ℕ, ◌∙◌, min, true, ap, sym, subst, arith, min-le_left, min-le_right}
use Rattle.boards.specs.Prelude.{shown_state, HasEnded, AuditView, audit_of, IsToldAs, AuditGoesOn}
use Rattle.machine_law.specs.declared.events.TheConstants.{MOST_EVENTS}
use Rattle.boards.proofs.Audits.{audited, audit_goes_on, run_ended}
use Rattle.boards.proofs.audited_board.Audited.finish.Goals as goal

pub invariant_of-self : goal.invariant_of-self
invariant_of-self g c =
    let old = c.self.inside.board in
    let new = c.finish_recorded-end.new.board in
    let is = c.self.invariant.1 in
    let goes = c.finish_recorded-end.ensures.goes_on in
    let most : c.most-most.result ≡ min c.args.steps old.room = c.most-most.ensures.is
    ∙ ap (λ (v : AuditView). min c.args.steps v.room) (sym c.self.view_is) in
    let records : new.records ≡ true = goes.records ∙ c.self.invariant.0 in
    let below : c.most-most.result ≤ old.room = subst (λ k. k ≤ old.room) (sym most)
    (min-le_right c.args.steps old.room) in
    let within : (shown_state new.board).steps ≤ old.room = omega (arith, goes.board.within, below) in (
      records,
      audited new c.finish_recorded-end.ensures.made (c.finish_recorded-end.ensures.events records)
          (subst (λ k. (shown_state new.board).steps ≤ k) (sym goes.room) within)
          (subst (λ k. k ≤ MOST_EVENTS) (sym goes.room) is.few),
    )

pub returns-clause-goes_on : goal.returns-clause-goes_on
returns-clause-goes_on g c =
    let old = c.self.inside.board in
    let new = c.finish_recorded-end.new.board in
    let most : c.most-most.result ≡ min c.args.steps old.room = c.most-most.ensures.is
    ∙ ap (λ (v : AuditView). min c.args.steps v.room) (sym c.self.view_is) in
    let below : c.most-most.result ≤ c.args.steps = subst (λ k. k ≤ c.args.steps) (sym most)
    (min-le_left c.args.steps old.room) in
    subst (λ (v : AuditView). AuditGoesOn v (audit_of new) c.args.steps) c.self.view_is
    (audit_goes_on old new c.most-most.result c.args.steps below c.self.invariant.0
    c.finish_recorded-end.ensures.goes_on)

pub returns-clause-end : goal.returns-clause-end
returns-clause-end g c =
    let new = c.finish_recorded-end.new.board in
    let most : c.most-most.result ≡ min c.args.steps new.room =
    c.most-most.ensures.is ∙ ap (λ (v : AuditView). min c.args.steps v.room) (sym c.self.view_is)
    ∙ ap (λ (k : ℕ). min c.args.steps k) (sym c.finish_recorded-end.ensures.goes_on.room) in
    run_ended new c.args.steps c.finish_recorded-end.result c.told_as.result (invariant_of-self g c).1
    (subst (λ k. HasEnded new.board k c.finish_recorded-end.result) most c.finish_recorded-end.ensures.end)
    (subst (λ k. IsToldAs k c.args.steps c.finish_recorded-end.result c.told_as.result) c.count.ensures
    c.told_as.ensures)

pub returns-clause-audited : goal.returns-clause-audited
returns-clause-audited g c = (invariant_of-self g c).1
