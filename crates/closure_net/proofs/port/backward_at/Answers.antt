use Rattle.std.proofs.Common.{arith}
use Rattle.closure_net.proofs.PortPlaces.{number_below}
use Rattle.closure_net.proofs.port.backward_at.Goals as goal

pub pair-other-requires : goal.pair-other-requires
pair-other-requires c = number_below c.args.rests.now.pairs c.args.b c.args.i c.below-numbers.result.now
    c.below-numbers.ensures (omega arith)
