use Rattle.places.proofs.ListedWays.{pairs_listed}
use Rattle.places.proofs.ImpliedPairs.{implied_is}
use Rattle.places.proofs.holders.Held.len.Goals as goal

pub returns-in-Placed-clause-all : goal.returns-in-Placed-clause-all
returns-in-Placed-clause-all c = rw c.in-Placed.is (implied_is _ c.len-in-Placed.ensures.all).pairs

pub returns-in-Listed-clause-all : goal.returns-in-Listed-clause-all
returns-in-Listed-clause-all c = rw c.in-Listed.is (pairs_listed _ c.len.ensures.all)
