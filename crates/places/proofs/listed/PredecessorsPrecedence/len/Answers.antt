use Rattle.places.proofs.ListedWays.{listed_is}
use Rattle.places.proofs.listed.PredecessorsPrecedence.len.Goals as goal

pub returns-clause-all : goal.returns-clause-all
returns-clause-all c = listed_is c.args.self.now c.len.ensures.all
