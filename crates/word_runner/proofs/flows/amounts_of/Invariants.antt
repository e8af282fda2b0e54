use Rattle.fixed_worth.proofs.Common.{◌≡◌, ◌<◌, ◌≤◌, ◌+◌, ◌-◌, ℕ, length, map, slice_index, slots_items}
use Rattle.ordered_group.specs.Sums.{amount_at}
use Rattle.word_steps.specs.Prelude.{units}
use Rattle.word_runner.specs.Prelude.{scaled_parts}
use Rattle.word_runner.proofs.flows.amounts_of.Given as goal

abbrev pub invariant-loop-k : goal.invariant-loop-k
invariant-loop-k l = (l.k ≤ l.size) × (length l.amounts.items ≡ l.k)
    × ((j : ℕ) → j < l.k → amount_at (map scaled_parts l.amounts.items) j ≡ units
    (slice_index (slots_items l.closed.words) (l.from + j)))

abbrev pub decreases-loop-k : goal.decreases-loop-k
decreases-loop-k l = l.size - l.k
