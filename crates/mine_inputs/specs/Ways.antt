-- The ways to treat the blocks of a mine that texts denote, and what a block is worth by each. Ways are counted from 0
-- in
-- the order of the settings; the number after the last of them is that of waste.
use Rattle.std.specs.Prelude.{◌≡◌, ℕ, ◌<◌, ℤ, pos, slice_index_or, unwrap_or}
use Rattle.shells.specs.Prices.{PricesView, way_at, way_count, worth_by_way}
use Rattle.mine_inputs.specs.PricedTexts.{table_of}
use Rattle.mine_inputs.specs.Mines.{MineTexts, mine_texts, priced_texts, sloped_texts, valued_texts, worth_by_texts}
use Rattle.mine_inputs.specs.Worths.{blocks_valued, nanos_at}
use Rattle.mine_inputs.specs.declared.worths.Worths.{Worths}
use Rattle.mine_inputs.specs.declared.worths.Worths.TheVariants.{Values, Prices}

-- the way that a block goes by a table of prices: the first that is worth most, or waste where none is worth more
abbrev pub most_way_at : PricesView → ℕ → ℕ → ℕ
most_way_at table factor b = unwrap_or (way_at table factor b) (way_count table)

-- how many ways there are beside waste: those of the prices, and none where blocks have values
abbrev pub ways_of : MineTexts → ℕ
ways_of (mine_texts values precedence) = 0
ways_of (priced_texts settings blocks precedence factor) = way_count (table_of settings blocks)
ways_of (sloped_texts settings blocks factor) = way_count (table_of settings blocks)
ways_of (valued_texts settings blocks values) = 0

-- what block b is worth by a way, in billionths; where there are no ways, what it is worth
abbrev pub worth_of_way : MineTexts → (way b : ℕ) → ℤ
worth_of_way (mine_texts values precedence) way b = worth_by_texts (mine_texts values precedence) b
worth_of_way (priced_texts settings blocks precedence factor) way b = worth_by_way (table_of settings blocks) factor
    way b
worth_of_way (sloped_texts settings blocks factor) way b = worth_by_way (table_of settings blocks) factor way b
worth_of_way (valued_texts settings blocks values) way b = worth_by_texts (valued_texts settings blocks values) b

-- the way by which block b is worth most, the first such, as reports tell it
abbrev pub most_way : MineTexts → ℕ → ℕ
most_way (mine_texts values precedence) b = 0
most_way (priced_texts settings blocks precedence factor) b = most_way_at (table_of settings blocks) factor b
most_way (sloped_texts settings blocks factor) b = most_way_at (table_of settings blocks) factor b
most_way (valued_texts settings blocks values) b = 0

-- the same of what was read
abbrev pub ways_valued : Worths → ℕ
ways_valued (Values upit) = 0
ways_valued (Prices table) = way_count table

abbrev pub worth_valued : Worths → (factor way b : ℕ) → ℤ
worth_valued (Values upit) factor way b = slice_index_or (nanos_at (Values upit) factor) b (pos 0)
worth_valued (Prices table) factor way b = worth_by_way table factor way b

abbrev pub way_valued : Worths → (factor b : ℕ) → ℕ
way_valued (Values upit) factor b = 0
way_valued (Prices table) factor b = most_way_at table factor b

-- What was read of the ways of n blocks is what the texts say, which are of a mine at this factor.
pub record AreWaysOf (texts : MineTexts) (factor n : ℕ) (worths : Worths) : Type 0 where
  pub size : blocks_valued worths ≡ n
  pub count : ways_valued worths ≡ ways_of texts
  pub each : (way b : ℕ) → b < n → worth_valued worths factor way b ≡ worth_of_way texts way b
  pub most : (b : ℕ) → b < n → way_valued worths factor b ≡ most_way texts b
