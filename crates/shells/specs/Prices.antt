-- A table of prices, and what it says a block is worth at a factor.
use Rattle.std.specs.Prelude.{◌≡◌, ℕ, ◌<◌, ◌≤◌, ℤ, pos, ◌*ℤ◌, ◌-ℤ◌, ◌≤ℤ◌, ◌<ℤ◌, int_lt, ◌⊎◌, cond, List, [], ◌∷◌}
use Rattle.std.specs.Prelude.{length, map, slice_index_or, All, Any, position, Option, None}
use Rattle.std.specs.Int.{int_max}
use Rattle.std.specs.Ordering.{int_eq}
use Rattle.std.specs.List.{range_with_len}
use Rattle.fixed_worth.specs.declared.limits.TheConstants.{MOST_BLOCKS}
use Rattle.certificate_file.specs.declared.header.Price.{Price}
use Rattle.certificate_file.specs.declared.header.Price.TheVariants.{Factor, Mill}
use Rattle.shells.specs.declared.most_ways.TheConstants.{MOST_WAYS}
use Rattle.shells.specs.declared.prices_fault.PricesFault.{PricesFault}
use Rattle.shells.specs.declared.prices_fault.PricesFault.TheVariants.{WrongLength, NegativeRevenue}

-- A way to treat blocks: what each earns where it is treated so, and what it costs to process it, in millionths.
pub record WayView : Type 0 where
  pub revenue : List ℤ
  pub processing : List ℤ

-- What blocks earn and what is charged for them, in millionths: the revenue and the cost of each; or else the ways to
-- treat it, and what it costs to mine it, wherever it goes.
pub data PricesView : Type 0 where
  plain_prices : (revenue cost : List ℤ) → PricesView
  treated_prices : (ways : List WayView) (mining : List ℤ) → PricesView

-- how many blocks a table prices
abbrev pub priced_count : PricesView → ℕ
priced_count (plain_prices revenue cost) = length revenue
priced_count (treated_prices ways mining) = length mining

-- the number at a place of a list, zero past its end
abbrev pub number_at : List ℤ → ℕ → ℤ
number_at xs b = slice_index_or xs b (pos 0)

-- so many thousandths of the revenue of block b, less what is charged for it, in billionths
abbrev pub left_at : List ℤ → List ℤ → ℕ → ℕ → ℤ
left_at revenue charge k b = pos k *ℤ number_at revenue b -ℤ pos 1000 *ℤ number_at charge b

-- what block b is worth by each of these ways at so many thousandths of its revenue, in billionths, before it is mined
abbrev pub worths_by : List WayView → ℕ → ℕ → List ℤ
worths_by ways k b = map (λ way. left_at way.revenue way.processing k b) ways

-- the greatest of these amounts, and zero where none is above it
abbrev pub best_of : List ℤ → ℤ
best_of [] = pos 0
best_of (w ∷ ws) = int_max w (best_of ws)

-- What block b is worth at so many thousandths of its revenue, in billionths. Where there are ways to treat it, it goes
-- the way that is worth most, or to waste: waste earns nothing and isn't processed, and mining is charged either way.
abbrev pub worth_at : PricesView → ℕ → ℕ → ℤ
worth_at (plain_prices revenue cost) k b = left_at revenue cost k b
worth_at (treated_prices ways mining) k b = best_of (worths_by ways k b) -ℤ pos 1000 *ℤ number_at mining b

-- the place of the first of these amounts that is as great as the greatest, where that is above zero
abbrev pub first_best : List ℤ → Option ℕ
first_best ws = cond (int_lt (pos 0) (best_of ws)) (position (λ w. int_eq w (best_of ws)) ws) None

-- Which way block b goes at so many thousandths of its revenue: the first that is worth most, by its place in the order
-- of the ways; none where it goes to waste, since no way is worth more than zero, and none where there are no ways.
abbrev pub way_at : PricesView → ℕ → ℕ → Option ℕ
way_at (plain_prices revenue cost) k b = None
way_at (treated_prices ways mining) k b = first_best (worths_by ways k b)

-- how many ways there are to treat a block beside waste
abbrev pub way_count : PricesView → ℕ
way_count (plain_prices revenue cost) = 0
way_count (treated_prices ways mining) = length ways

-- What block b is worth by a way, by its place in the order of the ways, at so many thousandths of its revenue, in
-- billionths: past the last way as waste, which is charged for mining alone. Where there are no ways, what it is worth.
abbrev pub worth_by_way : PricesView → ℕ → ℕ → ℕ → ℤ
worth_by_way (plain_prices revenue cost) k way b = left_at revenue cost k b
worth_by_way (treated_prices ways mining) k way b = slice_index_or (worths_by ways k b) way (pos 0) -ℤ pos 1000 *ℤ
    number_at mining b

-- the price that a certificate names at so many thousandths of the revenues
abbrev pub price_of : PricesView → ℕ → Price
price_of (plain_prices revenue cost) k = Factor k
price_of (treated_prices ways mining) k = Mill k

-- the worths of all blocks, in their order
abbrev pub worths_at : PricesView → ℕ → List ℤ
worths_at table k = map (worth_at table k) (range_with_len 0 (priced_count table))

-- the revenues of block b, one for each way where there are ways
abbrev pub revenues_at : PricesView → ℕ → List ℤ
revenues_at (plain_prices revenue cost) b = number_at revenue b ∷ []
revenues_at (treated_prices ways mining) b = map (λ way. number_at way.revenue b) ways

-- no revenue is negative
abbrev pub NoRevenueNegative : PricesView → Type 0
NoRevenueNegative table = (b : ℕ) → b < priced_count table → All (λ r. pos 0 ≤ℤ r) (revenues_at table b)

-- both lists of a way have n numbers
abbrev pub HasNumbers : ℕ → WayView → Type 0
HasNumbers n way = (length way.revenue ≡ n) × (length way.processing ≡ n)

-- all lists have equally many numbers, and where blocks are treated there are 1 to `MOST_WAYS` ways
abbrev pub AreListed : PricesView → Type 0
AreListed (plain_prices revenue cost) = length cost ≡ length revenue
AreListed (treated_prices ways mining) = (0 < length ways) × (length ways ≤ MOST_WAYS)
    × All (HasNumbers (length mining)) ways

-- all lists have equally many numbers, at most `MOST_BLOCKS`, and no revenue is negative
pub record IsTable (table : PricesView) : Type 0 where
  pub listed : AreListed table
  pub blocks : priced_count table ≤ MOST_BLOCKS
  pub revenues : NoRevenueNegative table

-- b is the first block with a negative revenue
pub record IsFirstNegative (table : PricesView) (b : ℕ) : Type 0 where
  pub block : b < priced_count table
  pub negative : Any (λ r. r <ℤ pos 0) (revenues_at table b)
  pub before : (c : ℕ) → c < b → All (λ r. pos 0 ≤ℤ r) (revenues_at table c)

-- why lists are no table: their lengths differ, there are no ways or too many, there are more than 2^24 blocks, or a
-- revenue is negative, of which the first block is named
abbrev pub PricesFaultStands : PricesView → PricesFault → Type 0
PricesFaultStands table WrongLength = (AreListed table → ⊥) ⊎ (MOST_BLOCKS < priced_count table)
PricesFaultStands table (NegativeRevenue b) = AreListed table × (priced_count table ≤ MOST_BLOCKS)
    × IsFirstNegative table b
