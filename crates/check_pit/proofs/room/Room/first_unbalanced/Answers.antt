use Rattle.fixed_worth.proofs.Common.{false, sym, ap, ◌∙◌, arith, below_more, common_steps}
use Rattle.ordered_group.specs.Amount.{zero_amount}
use Rattle.ordered_group.proofs.Order.{is_eq_tells}
use Rattle.closure_net.proofs.Views.{length_view, at_view}
use Rattle.check_pit.specs.Rooms.{RoomView}
use Rattle.check_pit.proofs.RoomEnds.{first_told}
use Rattle.check_pit.proofs.room.Room.first_unbalanced.Goals as goal

pub loop-b-preserved : goal.loop-b-preserved
loop-b-preserved g c =
    let parts = g.G.OrderedGroup.parts_of in
    let items = c.self.inside.balances.items in
    let is = ap (λ (v : RoomView). v.balances) c.self.view_is in
    let size = length_view parts items c.args.self.now.balances is in
    let here = at_view parts items c.args.self.now.balances c.loop-b.b c.index.result.now is
    (omega (arith, size, c.requires)) c.index.ensures in
    below_more _ _ c.loop-b.invariant
    (here ∙ (is_eq_tells (parts c.index.result.now) zero_amount).0 (sym c.is_zero.ensures ∙ c.if-not-is_zero.false))

pub returns-then-not-is_zero-clause-flow : goal.returns-then-not-is_zero-clause-flow
returns-then-not-is_zero-clause-flow g c = grind (arith, common_steps, length_view, at_view, first_told, is_eq_tells)
