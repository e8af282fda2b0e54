use Rattle.fixed_worth.proofs.Common.{◌≡◌, ◌<◌, ◌≤◌, ◌-◌, ℕ, length, slice_index}
use Rattle.ordered_group.specs.Prelude.{negative, amount_at}
use Rattle.word_steps.specs.Layout.{units}
use Rattle.word_runner.proofs.amounts.losses.Given as goal

abbrev pub invariant-loop-b : goal.invariant-loop-b
invariant-loop-b l = (l.b ≤ l.blocks) × (length l.loss.items ≡ l.b)
    × ((k : ℕ) → k < l.b → negative (amount_at l.net.worths k) ≡ units (slice_index l.loss.items k))

abbrev pub decreases-loop-b : goal.decreases-loop-b
decreases-loop-b l = l.blocks - l.b
