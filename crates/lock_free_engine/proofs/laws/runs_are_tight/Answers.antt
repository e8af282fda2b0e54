use Rattle.lock_free_engine.proofs.Cut.{runs_are_tight}
use Rattle.lock_free_engine.proofs.laws.runs_are_tight.Goals as goal

pub returns : goal.returns
returns c = runs_are_tight
