use Rattle.closure_net.proofs.NetSums.{greatest_is_richest}
use Rattle.closure_net.proofs.laws.greatest_set_is_richest_pit.Goals as goal

pub returns : goal.returns
returns c = greatest_is_richest
