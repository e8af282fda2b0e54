use Rattle.fixed_worth.proofs.Common.{◌≡◌, ℕ, ◌<◌, pos, length, get_or, slice_index}
use Rattle.mine_inputs.specs.Prelude.{worth_valued}
use Rattle.schedule_engines.proofs.way_lists.worths_by_way.Given as goal

abbrev pub invariant-loop-i : goal.invariant-loop-i
invariant-loop-i l = (length l.nanos.items ≡ l.i)
    × ((k : ℕ) → k < l.i → get_or l.nanos.items k (pos 0) ≡ worth_valued l.worths l.factor l.way (slice_index l.kept k))
