use Rattle.fixed_worth.proofs.Common.{ℕ, ◌<◌, ◌≤◌, length}
use Rattle.slope_offsets.specs.Offsets.{listed_at}
use Rattle.slope.proofs.ground.Ground.widest.Given as goal

abbrev pub invariant-loop-pattern : goal.invariant-loop-pattern
invariant-loop-pattern l = (r : ℕ) → r < l.pattern-index → length (listed_at l.self.patterns.items r) ≤ l.most
