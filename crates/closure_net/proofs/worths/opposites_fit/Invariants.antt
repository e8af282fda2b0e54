use Rattle.std.proofs.Common.{ℕ, ◌<◌, map}
use Rattle.ordered_group.specs.Prelude.{zero_amount, minus, FitsPair, amount_at}
use Rattle.closure_net.proofs.worths.opposites_fit.Given as goal

abbrev pub invariant-loop-w : goal.invariant-loop-w
invariant-loop-w g l = (b : ℕ) → b < l.w-index
    → FitsPair (minus zero_amount (amount_at (map g.G.OrderedGroup.parts_of l.worths) b))
