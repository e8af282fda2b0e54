use Rattle.replay_engines.proofs.Again.{histories_are_replayed}
use Rattle.replay_engines.proofs.laws.histories_are_replayed.Goals as goal

pub returns : goal.returns
returns c = histories_are_replayed
