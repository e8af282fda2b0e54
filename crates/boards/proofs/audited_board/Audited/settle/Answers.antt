use Rattle.std.proofs.Common.{refl, subst}
use Rattle.machine_law.specs.States.{IsQuiet}
use Rattle.boards.specs.Prelude.{BoardView, shown_state, HasSettled, AuditView, audit_of, HasAuditSettled}
use Rattle.boards.proofs.Ends.{unquiet}
use Rattle.boards.proofs.Audits.{audit_settled}
use Rattle.boards.proofs.audited_board.Audited.settle.Goals as goal

pub returns-then-not-quiet : goal.returns-then-not-quiet
returns-then-not-quiet g c = (
  refl,
  subst (λ (a : AuditView). ¬ (IsQuiet a.board.net (shown_state a.board))) c.self.view_is
      (unquiet c.quiet.result (IsQuiet c.self.inside.board.board.net (shown_state c.self.inside.board.board))
      c.quiet.ensures c.if-not-quiet.true),
)

pub returns : goal.returns
returns g c =
    let r = c.self.inside.board in
    let events = c.into_parts-board.result.1.items in
    subst (λ (a : AuditView). HasAuditSettled a c.in-Ok.net c.in-Ok.flow events) c.self.view_is
    (audit_settled (audit_of r) c.in-Ok.net c.in-Ok.flow events c.self.invariant.1 c.into_parts-board.ensures.events
    (subst (λ (b : BoardView). HasSettled b c.in-Ok.net c.in-Ok.flow) c.into_parts-board.ensures.board c.in-Ok.ensures))
