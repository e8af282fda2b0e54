use Rattle.shells.proofs.Rising.{best_is_nested}
use Rattle.shells.proofs.laws.best_pits_at_factors_are_nested.Goals as goal

pub returns : goal.returns
returns c = best_is_nested
