use Rattle.std.proofs.Common.{◌≡◌, ◌≤◌, arith, sym, subst, ap}
use Rattle.boards.specs.Boards.{shown_state}
use Rattle.machine_law.specs.declared.events.TheConstants.{MOST_EVENTS}
use Rattle.machine_law.specs.States.{State}
use Rattle.boards.proofs.Audits.{audited}
use Rattle.boards.proofs.audited_board.Audited.open.Goals as goal

pub invariant_of-result : goal.invariant_of-result
invariant_of-result g c =
    let r = c.in_ok-board.board in
    let o = c.in_ok-board.ensures in
    let none : (shown_state r.board).steps ≡ 0 = ap (λ (s : State). s.steps) o.board.state in (
      o.records,
      audited r c.len-blocks.ensures.made (c.len-blocks.ensures.events o.records) (omega (arith, none))
          (subst (λ k. k ≤ MOST_EVENTS) (sym o.room) c.requires),
    )
