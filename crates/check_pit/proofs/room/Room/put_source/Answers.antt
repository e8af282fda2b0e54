use Rattle.fixed_worth.proofs.Common.{arith, common_steps}
use Rattle.check_pit.proofs.RoomLines.{source_put}
use Rattle.check_pit.proofs.room.Room.put_source.Goals as goal

pub returns-clause-puts : goal.returns-clause-puts
returns-clause-puts g c = grind (arith, common_steps, source_put)
