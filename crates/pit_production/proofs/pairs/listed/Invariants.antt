use Rattle.fixed_worth.proofs.Common.{◌≡◌, ℕ, ◌<◌, length, get_or, slice_index_or}
use Rattle.pit_production.proofs.pairs.listed.Given as goal

abbrev pub invariant-loop-i : goal.invariant-loop-i
invariant-loop-i l = (length l.pairs.items ≡ l.i)
    × ((k : ℕ) → k < l.i → get_or l.pairs.items k (0, 0) ≡ slice_index_or l.rests.pairs k (0, 0))
