use Rattle.fixed_worth.proofs.Common.{◌≡◌, ℕ, ◌<◌, pos, length, get_or, slice_index}
use Rattle.mine_inputs.specs.Prelude.{worth_valued}
use Rattle.schedule_engines.proofs.choice.worths_chosen.Given as goal

abbrev pub invariant-loop-b : goal.invariant-loop-b
invariant-loop-b l = (length l.nanos.items ≡ l.b)
    × ((k : ℕ) → k < l.b → get_or l.nanos.items k (pos 0) ≡ worth_valued l.worths l.factor (slice_index l.ways k) k)
