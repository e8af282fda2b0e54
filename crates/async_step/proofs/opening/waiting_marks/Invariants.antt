use Rattle.std.proofs.Common.{map, length}
use Rattle.ordered_group.specs.Sums.{amount_at}
use Rattle.machine_law.specs.Reads.{is_positive}
use Rattle.async_step.proofs.Changes.{IsMarkedUpTo}
use Rattle.async_step.proofs.opening.waiting_marks.Given as goal

abbrev pub invariant-loop-b : goal.invariant-loop-b
invariant-loop-b g l = IsMarkedUpTo (λ b. is_positive (amount_at (map g.G.OrderedGroup.parts_of l.fn.excess) b))
    (length l.fn.excess) l.marks l.b
