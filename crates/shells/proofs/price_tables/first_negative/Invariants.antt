use Rattle.std.proofs.Common.{ℕ, ◌<◌, ◌≤ℤ◌, pos, All}
use Rattle.shells.specs.Prelude.{revenues_at, shown_table}
use Rattle.shells.proofs.price_tables.first_negative.Given as goal

abbrev pub invariant-loop-b : goal.invariant-loop-b
invariant-loop-b l = (c : ℕ) → c < l.b → All (λ r. pos 0 ≤ℤ r) (revenues_at (shown_table l.table) c)
