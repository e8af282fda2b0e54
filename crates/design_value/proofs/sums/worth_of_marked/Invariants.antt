use Rattle.std.proofs.Common.{◌≡◌}
use Rattle.ordered_group.specs.Sets.{worth_in}
use Rattle.design_value.specs.Sums.{marked_in, worth_listed}
use Rattle.design_value.proofs.sums.worth_of_marked.Given as goal

abbrev pub invariant-loop-b : goal.invariant-loop-b
invariant-loop-b l = l.sum ≡ worth_in (worth_listed l.nanos) (marked_in l.marks) l.b
