use Rattle.std.proofs.Common.{arith}
use Rattle.closure_net.proofs.Spreads.{below_known}
use Rattle.net_part.proofs.first_labels.find_below.Goals as goal

pub pair-b-requires : goal.pair-b-requires
pair-b-requires c = below_known c.args.rests.now c.args.p c.loop-k.k-index c.below-k-items.result.now
    c.below-k-items.ensures (omega arith)
