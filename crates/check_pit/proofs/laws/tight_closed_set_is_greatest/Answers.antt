use Rattle.check_pit.proofs.Duality.{duality}
use Rattle.check_pit.proofs.laws.tight_closed_set_is_greatest.Goals as goal

pub returns : goal.returns
returns c = duality
