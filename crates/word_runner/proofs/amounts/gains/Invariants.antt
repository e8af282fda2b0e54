use Rattle.fixed_worth.proofs.Common.{◌≡◌, ◌<◌, ◌≤◌, ◌-◌, ◌^◌, ℕ, length, slice_index}
use Rattle.ordered_group.specs.Prelude.{positive, amount_at, total}
use Rattle.word_steps.specs.Layout.{units}
use Rattle.word_runner.proofs.amounts.gains.Given as goal

abbrev pub invariant-loop-b : goal.invariant-loop-b
invariant-loop-b l = (l.b ≤ l.blocks) × (length l.gain.items ≡ l.b)
    × ((k : ℕ) → k < l.b → positive (amount_at l.net.worths k) ≡ units (slice_index l.gain.items k))
    × (total (λ k. positive (amount_at l.net.worths k)) l.b ≡ units l.sum) × (l.sum < 2 ^ 63)

abbrev pub decreases-loop-b : goal.decreases-loop-b
decreases-loop-b l = l.blocks - l.b
