use Rattle.std.proofs.Common.{ℕ, ◌<◌}
use Rattle.check_pit.specs.Checks.{KeepsWithin}
use Rattle.check_pit.proofs.checking.first_over.Given as goal

abbrev pub invariant-loop-b : goal.invariant-loop-b
invariant-loop-b g l = (k : ℕ) → k < l.b → KeepsWithin l.fn.net l.fn.flow k
