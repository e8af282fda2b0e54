use Rattle.places.proofs.ListedWays.{pairs_listed}
use Rattle.places.proofs.ImpliedPairs.{implied_is, same_test}
use Rattle.places.proofs.holders.HeldRef.blocks.Goals as goal

pub returns-in-Placed-clause-all : goal.returns-in-Placed-clause-all
returns-in-Placed-clause-all c = rw c.in-Placed.is (implied_is _ c.len-in-Placed.ensures.all).pairs

pub returns-in-Placed-clause-same : goal.returns-in-Placed-clause-same
returns-in-Placed-clause-same c = rw c.in-Placed.is (same_test _ c.len-in-Placed.ensures.all)

pub returns-in-Listed-clause-all : goal.returns-in-Listed-clause-all
returns-in-Listed-clause-all c = rw c.in-Listed.is (pairs_listed _ c.len.ensures.all)

pub returns-in-Timed-clause-all : goal.returns-in-Timed-clause-all
returns-in-Timed-clause-all c = rw c.in-Timed.is (implied_is _ c.len-in-Timed.ensures.all).pairs

pub returns-in-Timed-clause-same : goal.returns-in-Timed-clause-same
returns-in-Timed-clause-same c = rw c.in-Timed.is (same_test _ c.len-in-Timed.ensures.all)
