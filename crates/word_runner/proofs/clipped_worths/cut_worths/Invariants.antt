use Rattle.std.proofs.Common.{◌≡◌, ◌<◌, ◌≤◌, ◌-◌, ℕ, length, map}
use Rattle.ordered_group.specs.Sums.{amount_at}
use Rattle.word_runner.specs.CutNets.{scaled_parts, IsCutWorth}
use Rattle.word_runner.proofs.clipped_worths.cut_worths.Given as goal

abbrev pub invariant-loop-b : goal.invariant-loop-b
invariant-loop-b l = (l.b ≤ l.blocks) × (length l.worths.items ≡ l.b)
    × ((j : ℕ) → j < l.b → IsCutWorth (amount_at l.net.worths j) l.most (amount_at (map scaled_parts l.worths.items) j))

abbrev pub decreases-loop-b : goal.decreases-loop-b
decreases-loop-b l = l.blocks - l.b
