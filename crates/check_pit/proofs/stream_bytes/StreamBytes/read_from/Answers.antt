use Rattle.fixed_worth.proofs.Common.{slice_range, arith, with_items_is, places, common_steps}
use Rattle.check_pit.proofs.HeldBytes.{read_more}
use Rattle.check_pit.proofs.stream_bytes.StreamBytes.read_from.Goals as goal

pub returns-clause-read : goal.returns-clause-read
returns-clause-read g c = grind (arith, common_steps, with_items_is, places, read_more, slice_range)
