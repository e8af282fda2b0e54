use Rattle.std.proofs.Common.{below_more, arith}
use Rattle.ordered_group.specs.Amount.{zero_amount, minus, FitsPair}
use Rattle.ordered_group.proofs.Lists.{map_from_here}
use Rattle.closure_net.proofs.worths.opposites_fit.Goals as goal

pub loop-w-preserved : goal.loop-w-preserved
loop-w-preserved g c =
    below_more _ _ c.loop-w.invariant
    (map_from_here g.G.OrderedGroup.parts_of (λ a. FitsPair (minus zero_amount a)) c.args.worths.now c.loop-w.w-index
    c.w-item.result (omega arith) c.w-item.is c.in-Some.ensures.0)
