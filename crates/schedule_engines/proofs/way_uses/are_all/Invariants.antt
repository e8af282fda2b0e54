use Rattle.fixed_worth.proofs.Common.{◌≡◌, ℕ, ◌<◌, true, false, slice_index_or}
use Rattle.schedule_engines.proofs.way_uses.are_all.Given as goal

abbrev pub invariant-loop-r : goal.invariant-loop-r
invariant-loop-r l = (k : ℕ) → k < l.r → slice_index_or l.shared k false ≡ true
