use Rattle.fixed_worth.proofs.Common.{arith, common_steps}
use Rattle.async_step.proofs.Becoming.{fits_value, room_here, too_large}
use Rattle.async_step.proofs.state.State.move_to_sink.Goals as goal

pub returns-in_err-_room : goal.returns-in_err-_room
returns-in_err-_room g c = grind (arith, common_steps, too_large, room_here)

pub returns-in_err-more : goal.returns-in_err-more
returns-in_err-more g c = grind (arith, common_steps, too_large, fits_value)
