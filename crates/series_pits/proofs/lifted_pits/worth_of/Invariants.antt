use Rattle.std.proofs.Common.{◌≡◌, ℕ, ◌<◌, get_or}
use Rattle.ordered_group.specs.Sets.{worth_in}
use Rattle.shells.specs.Prices.{priced_count, worth_at}
use Rattle.sub_mines.specs.Prelude.{every_block, number_in}
use Rattle.series_pits.proofs.lifted_pits.worth_of.Given as goal

abbrev pub invariant-loop-b : goal.invariant-loop-b
invariant-loop-b l = (l.sum ≡ worth_in (λ i. worth_at l.prices l.factor (number_in l.blocks i)) every_block l.b-index)
    × ((j : ℕ) → j < l.b-index → get_or l.blocks j 0 < priced_count l.prices)
