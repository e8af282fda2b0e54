use Rattle.std.proofs.Common.{◌≡◌, ℕ, ◌<◌, map}
use Rattle.ordered_group.specs.Sums.{amount_at}
use Rattle.closure_net.proofs.equality.same_amounts.Given as goal

abbrev pub invariant-loop-k : goal.invariant-loop-k
invariant-loop-k g l = (i : ℕ) → i < l.k → amount_at (map g.G.OrderedGroup.parts_of l.xs) i ≡ amount_at
    (map g.G.OrderedGroup.parts_of l.ys) i
