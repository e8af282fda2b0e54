use Rattle.std.proofs.Common.{◌≡◌, ℕ, ◌<◌, length}
use Rattle.ordered_group.specs.Sums.{amount_at}
use Rattle.shells.specs.Prices.{worth_at}
use Rattle.shells.proofs.matching.has_worths.Given as goal

abbrev pub invariant-loop-b : goal.invariant-loop-b
invariant-loop-b g l = (c : ℕ) → c < l.b → amount_at l.net.worths c ≡ g.G.OrderedGroup.block_parts
    (worth_at l.prices l.factor c) (length l.net.worths)
