use Rattle.fixed_worth.proofs.Common.{◌≡◌, ◌≤◌, ◌∙◌, min, true, ap, sym, subst, arith, min-le_right}
use Rattle.boards.specs.Prelude.{shown_state, IsTurn, IsTurnEnd, RecordView, AuditView, audit_of, IsAuditTurn, IsToldAs}
use Rattle.machine_law.specs.declared.events.TheConstants.{MOST_EVENTS}
use Rattle.boards.specs.declared.turn.Turn.{Turn}
use Rattle.boards.specs.declared.turn.Turn.TheVariants.{Stepped, Idle as Unserved}
use Rattle.boards.proofs.Audits.{audited, turn_within, stepped, unserved, ended}
use Rattle.boards.proofs.audited_board.Audited.turn.Goals.{in-Stepped, in-Idle, in-Ended}
use Rattle.boards.proofs.audited_board.Audited.turn.Goals as goal

pub invariant_of-self : goal.invariant_of-self
invariant_of-self g c =
    let old = c.self.inside.board in
    let new = c.turn.new.self in
    let is = c.self.invariant.1 in
    let most : c.most-most.result ≡ min c.args.steps old.room = c.most-most.ensures.is
    ∙ ap (λ (v : AuditView). min c.args.steps v.room) (sym c.self.view_is) in
    let room : new.room ≡ old.room = ap (λ (r : RecordView). r.room) c.turn.ensures.writes in
    let records : new.records ≡ true = ap (λ (r : RecordView). r.records) c.turn.ensures.writes ∙ c.self.invariant.0 in
    let before : (shown_state old.board).steps ≤ old.room = omega (arith, is.counted, is.within) in
    let within = turn_within old.board new.board c.args.own c.args.from c.most-most.result old.room c.turn.result
    (subst (λ k. k ≤ old.room) (sym most) (min-le_right c.args.steps old.room)) before c.turn.ensures.turn in (
      records,
      audited new c.turn.ensures.made (c.turn.ensures.events records)
          (subst (λ k. (shown_state new.board).steps ≤ k) (sym room) within)
          (subst (λ k. k ≤ MOST_EVENTS) (sym room) is.few),
    )

pub returns-clause-turn : goal.returns-clause-turn
returns-clause-turn g c =
    let old = c.self.inside.board in
    let new = c.turn.new.self in
    let is = c.self.invariant.1 in
    let most : c.most-most.result ≡ min c.args.steps old.room = c.most-most.ensures.is
    ∙ ap (λ (v : AuditView). min c.args.steps v.room) (sym c.self.view_is) in
    let P : Turn → Type 0 = λ t. IsAuditTurn (audit_of old) c.args.own c.args.from c.args.steps (audit_of new) t in
    subst (λ (v : AuditView). IsAuditTurn v c.args.own c.args.from c.args.steps (audit_of new) c.match-turn.result)
    c.self.view_is
    (elim c.match-turn.branch [
      | in-Stepped w ↦ subst P (sym w.result-is)
          (stepped old new c.args.own c.args.from c.args.steps is w.in-Stepped.block w.in-Stepped.more
          c.self.invariant.0
          (subst (λ k. IsTurn old.board c.args.own c.args.from k new.board
          (Stepped w.in-Stepped.block w.in-Stepped.more)) most w.in-Stepped.ensures.turn)
          w.in-Stepped.ensures.writes)
      | in-Idle w ↦ subst P (sym w.result-is)
          (unserved old new c.args.own c.args.from c.args.steps is
          (subst (λ k. IsTurn old.board c.args.own c.args.from k new.board Unserved) most w.in-Idle.ensures.turn)
          w.in-Idle.ensures.writes)
      | in-Ended w ↦ subst P (sym w.result-is)
          (ended old new c.args.own c.args.from c.args.steps is w.in-Ended.end w.told_as.result
          (subst (λ k. IsTurnEnd old.board c.args.own c.args.from k new.board w.in-Ended.end) most
          w.in-Ended.ensures.turn) w.in-Ended.ensures.writes
          (subst (λ k. IsToldAs k c.args.steps w.in-Ended.end w.told_as.result) w.count.ensures w.told_as.ensures))
    ])

pub returns-clause-audited : goal.returns-clause-audited
returns-clause-audited g c = (invariant_of-self g c).1
