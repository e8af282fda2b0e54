use Rattle.places.proofs.ImpliedPairs.{implied_is}
use Rattle.places.proofs.laws.implied_pairs.Goals as goal

pub returns : goal.returns
returns c = implied_is
