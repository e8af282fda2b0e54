use Rattle.std.proofs.Common.{◌≡◌}
use Rattle.ordered_group.specs.Prelude.{positive, total, amount_at}
use Rattle.check_pit.proofs.room.positive_total.Given as goal

abbrev pub invariant-loop-b : goal.invariant-loop-b
invariant-loop-b g l = g.G.OrderedGroup.parts_of l.sum ≡ total (λ b. positive (amount_at l.fn.net.worths b)) l.b
