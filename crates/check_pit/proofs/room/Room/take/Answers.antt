use Rattle.std.proofs.Common.{◌<◌, length, sym, ap, ◌∙◌, arith}
use Rattle.closure_net.proofs.Views.{length_view, at_view}
use Rattle.ordered_group.specs.Amount.{Amount, minus}
use Rattle.check_pit.specs.Rooms.{RoomView}
use Rattle.check_pit.proofs.RoomSums.{balance_set}
use Rattle.check_pit.proofs.room.Room.take.Goals as goal

pub returns : goal.returns
returns g c =
    let parts = g.G.OrderedGroup.parts_of in
    let items = c.self.inside.balances.items in
    let is = ap (λ (v : RoomView). v.balances) c.self.view_is in
    let inside : c.args.block < length items = omega (arith, c.requires, length_view parts items _ is) in
    let here = at_view parts items c.args.self.now.balances c.args.block c.index_mut-balance.result.now is inside
    c.index_mut-balance.ensures.value in
    let difference = rw c.in_ok-balance.ensures.ok_part at c.try_sub.ensures in
    balance_set parts items _ _ _ _ _ c.args.block c.in_ok-balance.field-0 _ c.args.self.now c.self.view_is
    (difference.1 ∙ ap (λ (x : Amount). minus x (parts c.args.amount)) (sym here))
