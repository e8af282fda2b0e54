use Rattle.std.proofs.Common.{rules, ap, arith, length}
use Rattle.ordered_group.specs.Amount.{Amount, plus}
use Rattle.ordered_group.proofs.Steps.{fits_same}
use Rattle.check_pit.specs.Rooms.{RoomView}
use Rattle.check_pit.proofs.RoomLines.{block_space, block_over}
use Rattle.check_pit.proofs.room.Room.put_block.Goals as goal

pub push-requires-clause-space : goal.push-requires-clause-space
push-requires-clause-space g c =
    let space = block_space c.args.net.now c.args.self.now c.args.line.now c.requires.kind c.requires.may in
    omega (
      arith,
      space,
      ap (λ (v : RoomView). length v.blocks) c.self.view_is,
      ap (λ (v : RoomView). v.space)
          c.self.view_is,
    )

pub returns-in_err-self-inside-clause-puts : goal.returns-in_err-self-inside-clause-puts
returns-in_err-self-inside-clause-puts g c =
    let parts = g.G.OrderedGroup.parts_of in
    let over = rw c.in_err-self-inside.ensures.ok_part at c.try_add.ensures in
    let worth = ap (λ (v : RoomView). v.worth) c.self.view_is in
    let refused = block_over c.args.net.now c.args.line.now c.args.self.now (parts c.worth-worth.result)
    c.requires.kind c.worth-worth.ensures
    (λ f. over (fits_same _ _ (ap (λ (x : Amount). plus x (parts c.worth-worth.result)) worth) f)) in
    search (rules, refused)
