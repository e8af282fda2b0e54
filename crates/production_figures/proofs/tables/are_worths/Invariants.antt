use Rattle.std.proofs.Common.{ℕ, ◌<◌, pos, slice_index_or}
use Rattle.production_figures.specs.Figures.{IsWorth}
use Rattle.production_figures.proofs.tables.are_worths.Given as goal

abbrev pub invariant-loop-b : goal.invariant-loop-b
invariant-loop-b l = (k : ℕ) → k < l.b → IsWorth (slice_index_or l.worths k (pos 0))
