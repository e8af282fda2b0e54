use Rattle.fixed_worth.proofs.Common.{◌≡◌, ◌<◌, ◌≤◌, ◌-◌, ℕ, length, map, slice_index, slots_items}
use Rattle.ordered_group.specs.Prelude.{minus, negative, amount_at}
use Rattle.word_steps.specs.Prelude.{units, room_at}
use Rattle.word_runner.specs.Prelude.{scaled_parts}
use Rattle.word_runner.proofs.flows.sinks_of.Given as goal

abbrev pub invariant-loop-b : goal.invariant-loop-b
invariant-loop-b l = (l.b ≤ l.blocks) × (length l.amounts.items ≡ l.b)
    × ((j : ℕ) → j < l.b → amount_at (map scaled_parts l.amounts.items) j ≡ minus
    (negative (amount_at l.net.worths j)) (units (slice_index (slots_items l.closed.words) (room_at l.net j))))

abbrev pub decreases-loop-b : goal.decreases-loop-b
decreases-loop-b l = l.blocks - l.b
