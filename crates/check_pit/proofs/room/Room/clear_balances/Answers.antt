use Rattle.fixed_worth.proofs.Common.{arith, length-set, common_steps}
use Rattle.closure_net.proofs.Views.{length_view}
use Rattle.check_pit.proofs.RoomSums.{cleared_size, cleared_more}
use Rattle.check_pit.proofs.room.Room.clear_balances.Goals as goal

pub loop-b-preserved : goal.loop-b-preserved
loop-b-preserved g c = grind (arith, common_steps, length_view, cleared_size, length-set, cleared_more)
