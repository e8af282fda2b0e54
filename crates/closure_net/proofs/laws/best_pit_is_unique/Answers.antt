use Rattle.closure_net.proofs.BestPits.{best_is_one}
use Rattle.closure_net.proofs.laws.best_pit_is_unique.Goals as goal

pub returns : goal.returns
returns c = best_is_one
