use Rattle.std.proofs.Common.{ap, ◌∙◌, arith}
use Rattle.check_pit.specs.Rooms.{RoomView}
use Rattle.check_pit.proofs.room.Room.begin.Goals as goal

pub returns-clause-succeeds : goal.returns-clause-succeeds
returns-clause-succeeds g c = λ fresh space.
    let pit = ap (λ (v : RoomView). v.is_pit) c.self.view_is in
    let holds = ap (λ (v : RoomView). v.space) c.self.view_is in
    c.clear.ensures.succeeds (pit ∙ c.clear_balances.ensures.pit ∙ fresh)
    (omega (arith, c.len.ensures, holds, c.clear_balances.ensures.space, space))
