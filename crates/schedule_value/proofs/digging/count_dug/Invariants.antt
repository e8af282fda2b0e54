use Rattle.std.proofs.Common.{◌≡◌, nat_lt}
use Rattle.ordered_group.specs.Sets.{count_in}
use Rattle.schedule_value.specs.Prelude.{period_by}
use Rattle.schedule_value.proofs.digging.count_dug.Given as goal

abbrev pub invariant-loop-b : goal.invariant-loop-b
invariant-loop-b l = l.count ≡ count_in (λ b. nat_lt (period_by l.schedule b) l.periods) l.b
