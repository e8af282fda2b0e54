use Rattle.check_engines.proofs.SlopePairs.{slopes_are_pairs, valued_slopes_are_pairs}
use Rattle.check_engines.proofs.laws.slopes_are_their_pairs.Goals as goal

pub returns-clause-priced : goal.returns-clause-priced
returns-clause-priced c = slopes_are_pairs

pub returns-clause-valued : goal.returns-clause-valued
returns-clause-valued c = valued_slopes_are_pairs
