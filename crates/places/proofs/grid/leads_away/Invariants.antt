use Rattle.std.proofs.Common.{◌≡◌, ℕ, ◌<◌, get_or}
use Rattle.places.proofs.grid.leads_away.Given as goal

abbrev pub invariant-loop-delta : goal.invariant-loop-delta
invariant-loop-delta l = (j : ℕ) → j < l.delta-index → get_or l.deltas j 0 ≡ l.fn.centre → ⊥
