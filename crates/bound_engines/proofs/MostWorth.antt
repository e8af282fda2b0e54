-- By no way is a block worth more than the mine says.
use Rattle.fixed_worth.proofs.Common.{ℕ, zero, suc, ℤ, pos, ◌≤ℤ◌, List, [], ◌∷◌, slice_index_or, arith, ints}
use Rattle.std.proofs.lemmas.Int.{clamps}
use Rattle.shells.specs.Prices.{PricesView, plain_prices, treated_prices, best_of, left_at, worth_at, worth_by_way}
use Rattle.shells.specs.Prices.{worths_by}
use Rattle.mine_inputs.specs.Prelude.{MineTexts, mine_texts, priced_texts, sloped_texts, valued_texts, table_of}
use Rattle.mine_inputs.specs.Prelude.{worth_by_texts, worth_of_way}
use Rattle.expanded_mine.proofs.Waiting.{no_more}

-- none of these amounts is above the greatest, and none is above it past their end
listed_most : (ws : List ℤ) (i : ℕ) → slice_index_or ws i (pos 0) ≤ℤ best_of ws
listed_most [] i = no_more (pos 0)
listed_most (w ∷ ws) zero = omega (arith, ints, clamps)
listed_most (w ∷ ws) (suc i) = let h = listed_most ws i in omega (arith, ints, clamps, h)

by_table : (table : PricesView) (factor way b : ℕ) → worth_by_way table factor way b ≤ℤ worth_at table factor b
by_table (plain_prices revenue cost) factor way b = no_more (left_at revenue cost factor b)
by_table (treated_prices ways mining) factor way b = let h = listed_most (worths_by ways factor b) way in omega
    (arith, ints, h)

pub way_worth : (texts : MineTexts) (way b : ℕ) → worth_of_way texts way b ≤ℤ worth_by_texts texts b
way_worth (mine_texts values precedence) way b = no_more (worth_by_texts (mine_texts values precedence) b)
way_worth (priced_texts settings blocks precedence factor) way b = by_table (table_of settings blocks) factor way b
way_worth (sloped_texts settings blocks factor) way b = by_table (table_of settings blocks) factor way b
way_worth (valued_texts settings blocks values) way b = no_more (worth_by_texts (valued_texts settings blocks values) b)
