-- What a text of settings and a text of blocks say together of prices.
use Rattle.std.specs.Prelude.{◌≡◌, ℕ, ◌+◌, ◌*◌, ℤ, pos, Bool, true, false, List, [], ◌∷◌, ◌++◌, length, map}
use Rattle.std.specs.Prelude.{slice_index_or, Option, Some, None, unwrap_or, Err}
use Rattle.std.specs.List.{range_with_len}
use Rattle.blocks_file.specs.Records as blocks
use Rattle.blocks_file.specs.Denotes.{BlocksView}
use Rattle.blocks_file.specs.declared.blocks_fault.BlocksFault.{BlocksFault}
use Rattle.settings_file.specs.declared.keys.Key.{Key}
use Rattle.settings_file.specs.declared.keys.Key.TheVariants.{Revenue, Cost, Processing, Mining, Slopes, Region, Up}
use Rattle.settings_file.specs.declared.keys.Key.TheVariants.{Ways}
use Rattle.settings_file.specs.declared.settings_fault.SettingsFault.{SettingsFault}
use Rattle.settings_file.specs.declared.settings_fault.SettingsFault.TheVariants as settings_fault
use Rattle.settings_file.specs.declared.ways.WayColumns.{WayColumns}
use Rattle.settings_file.specs.Settings.{SettingsView, ReadsSettings, AreSettings, settings_of, is_said, names_mill}
use Rattle.settings_file.specs.Settings.{first_missing, first_said}
use Rattle.shells.specs.Prices.{WayView, PricesView, plain_prices, treated_prices, NoRevenueNegative, PricesFaultStands}
use Rattle.shells.specs.declared.prices_fault.PricesFault.{PricesFault}
use Rattle.engine_faults.specs.declared.engine_fault.Problem.{Problem}
use Rattle.engine_faults.specs.declared.engine_fault.Problem.TheVariants as problem
use Rattle.mine_inputs.specs.declared.columns_of_prices.PriceColumns.{PriceColumns}
use Rattle.mine_inputs.specs.declared.columns_of_prices.PriceColumns.TheVariants.{Plain, Treated}
use Rattle.mine_inputs.specs.Limits.{IsTooLong, IsWithinLimit}
use Rattle.mine_inputs.specs.BlockTexts.{BlocksFails}

-- The keys that are needed where ways are listed or not, and where there is a mill or none, with these others, in the
-- order in which they are missed: costs come before the others, and the charges of ways and of a mill after them.
abbrev pub keys_by : (ways mill : Bool) → List Key → List Key
keys_by true mill others = others ++ (Mining ∷ [])
keys_by false true others = Revenue ∷ (others ++ (Processing ∷ Mining ∷ []))
keys_by false false others = Revenue ∷ Cost ∷ others

-- the keys that a priced model needs: there is a mill where the settings name one of its charges and list no ways
abbrev pub price_keys : SettingsView → List Key
price_keys s = keys_by (is_said s Ways) (names_mill s) []

-- the keys in whose place ways stand: no use is made of them where ways are listed
abbrev pub replaced_by : Bool → List Key
replaced_by true = Revenue ∷ Cost ∷ Processing ∷ []
replaced_by false = []

-- the first key of which no use is made and at which there is something: those in whose place ways stand come before
-- these others
abbrev pub first_unused : List Key → SettingsView → Option Key
first_unused others s = first_said (replaced_by (is_said s Ways) ++ others) s

-- the keys of slopes by region: where the precedence is a text of its own, no use is made of them
abbrev pub slope_keys : List Key
slope_keys = Slopes ∷ Region ∷ Up ∷ []

-- the keys that are needed beside those of prices: slopes before the others where blocks rest on one another by slopes
-- (true)
abbrev pub others_by : Bool → List Key → List Key
others_by true others = Slopes ∷ others
others_by false others = others

-- the keys of which no use is made: those of slopes where the precedence is a text of its own (false), and none
-- otherwise
abbrev pub unused_by : Bool → List Key
unused_by true = []
unused_by false = slope_keys

-- the one way of a mill, by the keys of its columns
abbrev pub mill_way : SettingsView → WayColumns
mill_way s = record { revenue = unwrap_or s.revenue 0; processing = unwrap_or s.processing 0 }

-- The columns of prices that settings name, by the ways that they list, if any, and whether they name a charge of a
-- mill. A mill is one way.
abbrev pub columns_by : Option (List WayColumns) → Bool → SettingsView → PriceColumns
columns_by (Some ways) mill s = Treated ways (unwrap_or s.mining 0)
columns_by None true s = Treated (mill_way s ∷ []) (unwrap_or s.mining 0)
columns_by None false s = Plain (unwrap_or s.revenue 0) (unwrap_or s.cost 0)

-- the columns of prices that settings name
abbrev pub columns_said : SettingsView → PriceColumns
columns_said s = columns_by s.ways (names_mill s) s

-- the columns of ways in the order in which they are chosen: of each its revenue and then its processing
abbrev pub way_list : List WayColumns → List ℕ
way_list [] = []
way_list (way ∷ ways) = way.revenue ∷ way.processing ∷ way_list ways

-- The columns of prices in the order in which they are chosen of the blocks: revenues and costs, or those of the ways
-- and then mining.
abbrev pub column_list : PriceColumns → List ℕ
column_list (Plain revenue cost) = revenue ∷ cost ∷ []
column_list (Treated ways mining) = way_list ways ++ (mining ∷ [])

-- the columns of prices that are chosen of the blocks, and after them the others
abbrev pub columns_beside : PriceColumns → List ℕ → List ℕ
columns_beside columns [] = column_list columns
columns_beside columns (other ∷ others) = column_list columns ++ (other ∷ others)

-- how many columns of prices there are, which is the place of the first other column after them
abbrev pub place_beside : PriceColumns → ℕ
place_beside (Plain revenue cost) = 2
place_beside (Treated ways mining) = 2 * length ways + 1

-- the columns of prices that settings name, in the order in which they are chosen of the blocks
abbrev pub price_columns : SettingsView → List ℕ
price_columns s = column_list (columns_said s)

-- the number of a column in the record of a block, in millionths
abbrev pub cell : List ℕ → ℕ → ℕ → ℤ
cell text column b = blocks.value_in (blocks.columns_of (blocks.record_among (blocks.lines_in text) b)) column

-- the numbers of a column, block by block
abbrev pub cells : List ℕ → ℕ → List ℤ
cells text column = map (cell text column) (range_with_len 0 (blocks.record_count_of text))

-- the values of the column of a model that was chosen as the i-th, block by block
abbrev pub values_of : BlocksView → ℕ → List ℤ
values_of m i = map (λ b. slice_index_or (slice_index_or m.columns i []) b (pos 0)) (range_with_len 0 m.blocks)

-- the way that the i-th pair of the chosen columns of a model makes
abbrev pub way_from : BlocksView → ℕ → WayView
way_from m i = record { revenue = values_of m (2 * i); processing = values_of m (2 * i + 1) }

-- the ways that the first of the chosen columns of a model make, so many of them
abbrev pub ways_from : ℕ → BlocksView → List WayView
ways_from count m = map (way_from m) (range_with_len 0 count)

-- The prices that the first of the chosen columns of a model make: its revenues and its costs, or its ways and then
-- mining.
abbrev pub first_columns : PriceColumns → BlocksView → PricesView
first_columns (Plain revenue cost) m = plain_prices (values_of m 0) (values_of m 1)
first_columns (Treated ways mining) m = treated_prices (ways_from (length ways) m) (values_of m (2 * length ways))

-- what blocks earn by a way and what is charged for it, in millionths, by its columns in a text
abbrev pub way_cells : List ℕ → WayColumns → WayView
way_cells text way = record { revenue = cells text way.revenue; processing = cells text way.processing }

-- the prices of the blocks of a text, by columns: the revenues and costs, or the ways and what it costs to mine
abbrev pub table_at : PriceColumns → List ℕ → PricesView
table_at (Plain revenue cost) text = plain_prices (cells text revenue) (cells text cost)
table_at (Treated ways mining) text = treated_prices (map (way_cells text) ways) (cells text mining)

-- the prices of the blocks of a text, by the columns that settings name
abbrev pub table_by : SettingsView → List ℕ → PricesView
table_by s text = table_at (columns_said s) text

-- the prices of the blocks of a text, by the columns that a text of settings names
abbrev pub table_of : List ℕ → List ℕ → PricesView
table_of settings text = table_by (settings_of settings) text

-- The text of settings is read, and says something at each of the keys that such settings need, and nothing at those of
-- which no use is made.
pub record KeysSaid (needed : SettingsView → List Key) (unused : List Key) (settings : List ℕ) : Type 0 where
  pub within : IsWithinLimit settings
  pub read : AreSettings settings
  pub used : first_unused unused (settings_of settings) ≡ None
  pub said : first_missing (needed (settings_of settings)) (settings_of settings) ≡ None

-- the settings name the columns of prices
abbrev pub ColumnsKnown : List ℕ → Type 0
ColumnsKnown settings = KeysSaid price_keys slope_keys settings

-- What a mine of prices wants of its settings and its blocks: the keys that settings need, by what they say; those of
-- which no use is made; and the columns that are chosen of the blocks.
pub record Wanted : Type 0 where
  pub needed : SettingsView → List Key
  pub unused : List Key
  pub chosen : SettingsView → List ℕ

-- what is wanted where the precedence is a text of its own
abbrev pub prices_alone : Wanted
prices_alone = record { needed = price_keys; unused = slope_keys; chosen = price_columns }

-- The settings say what is wanted of them, and the text of blocks has the columns, of n blocks; no revenue is negative.
pub record PricesReadBy (w : Wanted) (settings text : List ℕ) (n : ℕ) : Type 0 where
  pub columns : KeysSaid w.needed w.unused settings
  pub within : IsWithinLimit text
  pub read : blocks.blocks_fault_of (w.chosen (settings_of settings)) text ≡ None
  pub count : blocks.record_count_of text ≡ n
  pub revenues : NoRevenueNegative (table_of settings text)

-- the settings name the columns of prices, and the text of blocks has them
abbrev pub PricesRead : List ℕ → List ℕ → ℕ → Type 0
PricesRead settings text n = PricesReadBy prices_alone settings text n

-- a fault of settings that need the first of these keys, where no use is made of the others: one of the text, a key
-- that isn't used, or one that is missing; want of memory isn't one
abbrev pub SettingsFaultStands : (SettingsView → List Key) → List Key → List ℕ → SettingsFault → Type 0
SettingsFaultStands needed unused text settings_fault.NoMemory = ⊥
SettingsFaultStands needed unused text (settings_fault.Unused key) = AreSettings text
    × (first_unused unused (settings_of text) ≡ Some key)
SettingsFaultStands needed unused text (settings_fault.Missing key) = AreSettings text
    × (first_missing (needed (settings_of text)) (settings_of text) ≡ Some key)
    × (first_unused unused (settings_of text) ≡ None)
SettingsFaultStands needed unused text fault = ReadsSettings text (Err fault)

-- the settings aren't read: their text is too long, or this fault of it stands
abbrev pub SettingsFails : (SettingsView → List Key) → List Key → List ℕ → Problem SettingsFault → Type 0
SettingsFails needed unused text problem.InputTooLong = IsTooLong text
SettingsFails needed unused text (problem.Fault fault) = IsWithinLimit text
    × SettingsFaultStands needed unused text fault

-- a fault of the blocks, of which the settings name the columns
abbrev pub PricedBlocksFailBy : Wanted → List ℕ → List ℕ → Problem BlocksFault → Type 0
PricedBlocksFailBy w settings text p = KeysSaid w.needed w.unused settings
    × BlocksFails (w.chosen (settings_of settings)) text p

-- a fault of the blocks, of which the settings name the columns of prices, where the precedence is a text of its own
abbrev pub PricedBlocksFail : List ℕ → List ℕ → Problem BlocksFault → Type 0
PricedBlocksFail settings text p = PricedBlocksFailBy prices_alone settings text p

-- the settings and the blocks are read, and the columns are no table of prices for this reason
pub record PricesFailBy (w : Wanted) (settings text : List ℕ) (fault : PricesFault) : Type 0 where
  pub columns : KeysSaid w.needed w.unused settings
  pub within : IsWithinLimit text
  pub read : blocks.blocks_fault_of (w.chosen (settings_of settings)) text ≡ None
  pub stands : PricesFaultStands (table_of settings text) fault

-- the columns are no table of prices for this reason, where the precedence is a text of its own
abbrev pub PricesFail : List ℕ → List ℕ → PricesFault → Type 0
PricesFail settings text fault = PricesFailBy prices_alone settings text fault
