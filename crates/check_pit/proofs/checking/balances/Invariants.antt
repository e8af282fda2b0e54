use Rattle.std.proofs.Common.{ℕ, ◌<◌}
use Rattle.check_pit.specs.Checks.{BalanceStands}
use Rattle.check_pit.proofs.checking.balances.Given as goal

abbrev pub invariant-loop-b : goal.invariant-loop-b
invariant-loop-b g l = (k : ℕ) → k < l.b → BalanceStands l.fn.net l.fn.flow k
