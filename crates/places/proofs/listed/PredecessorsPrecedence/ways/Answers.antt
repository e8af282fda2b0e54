use Rattle.std.proofs.Common.{arith, length, ap}
use Rattle.places.proofs.ListedWays.{few_ways}
use Rattle.places.proofs.listed.PredecessorsPrecedence.ways.Goals as goal

pub overflow_cast-result : goal.overflow_cast-result
overflow_cast-result c = omega
    (arith, few_ways c.args.self.now c.len-few.ensures.few c.args.b, ap length c.above.ensures)
