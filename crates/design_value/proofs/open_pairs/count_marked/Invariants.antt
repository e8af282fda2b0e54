use Rattle.std.proofs.Common.{◌≡◌}
use Rattle.ordered_group.specs.Sets.{count_in}
use Rattle.design_value.specs.Sums.{marked_in}
use Rattle.design_value.proofs.open_pairs.count_marked.Given as goal

abbrev pub invariant-loop-b : goal.invariant-loop-b
invariant-loop-b l = l.count ≡ count_in (marked_in l.marks) l.b
