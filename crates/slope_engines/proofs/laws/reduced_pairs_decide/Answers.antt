use Rattle.slope_engines.proofs.Reduced.{reduced_decide}
use Rattle.slope_engines.proofs.laws.reduced_pairs_decide.Goals as goal

pub returns : goal.returns
returns c = reduced_decide
