use Rattle.std.proofs.Common.{ℕ, ◌<◌}
use Rattle.ordered_group.specs.Prelude.{zero_amount, AtMost, amount_at}
use Rattle.check_pit.proofs.checking.none_negative.Given as goal

abbrev pub invariant-loop-k : goal.invariant-loop-k
invariant-loop-k g l = (j : ℕ) → j < l.k → AtMost zero_amount (amount_at l.carried j)
