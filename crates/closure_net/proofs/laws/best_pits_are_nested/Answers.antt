use Rattle.closure_net.proofs.BestPits.{best_is_within}
use Rattle.closure_net.proofs.laws.best_pits_are_nested.Goals as goal

pub returns : goal.returns
returns c = best_is_within
