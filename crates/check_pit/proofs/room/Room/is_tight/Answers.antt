use Rattle.fixed_worth.proofs.Common.{arith, common_steps}
use Rattle.check_pit.proofs.RoomEnds.{tight_told}
use Rattle.check_pit.proofs.room.Room.is_tight.Goals as goal

pub returns-clause-flow : goal.returns-clause-flow
returns-clause-flow g c = λ net. grind (arith, common_steps, tight_told)
