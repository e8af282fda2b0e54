use Rattle.std.proofs.Common.{map, length, not}
use Rattle.ordered_group.specs.Prelude.{amount_at, is_zero}
use Rattle.async_step.proofs.Changes.{IsMarkedUpTo}
use Rattle.async_step.proofs.opening.busy_marks.Given as goal

abbrev pub invariant-loop-b : goal.invariant-loop-b
invariant-loop-b g l = IsMarkedUpTo (λ b. not (is_zero (amount_at (map g.G.OrderedGroup.parts_of l.fn.excess) b)))
    (length l.fn.excess) l.marks l.b
