use Rattle.fixed_worth.proofs.Common.{◌≡◌, ℕ, ◌<◌, ◌/◌, ◌%◌, length, get_or, pos, ◌-ℤ◌}
use Rattle.expanded_mine.specs.Prelude.{is_early, node_worth, withheld}
use Rattle.expanded_mine.proofs.node_worths.node_worths_of.Given as goal

abbrev pub invariant-loop-i : goal.invariant-loop-i
invariant-loop-i l = (length l.worths.items ≡ l.i) × ((j : ℕ) → j < l.i → get_or l.worths.items j (pos 0)
    ≡ node_worth l.figures l.others l.prices (j % length l.figures.worths) (j / length l.figures.worths) -ℤ withheld
    (is_early (length l.figures.worths) l.waits.lag l.waits.pairs.pairs j))
