-- What only the functions of this crate say to one another.
use Rattle.std.specs.Prelude.{◌≡◌, ℕ, ◌+◌, ◌*◌, ◌^◌, ◌<◌, ◌≤◌, ℤ, pos, Bool, cond, List, [], ◌∷◌, ◌++◌, length, map}
use Rattle.std.specs.Prelude.{slice_index_or, unsigned_abs, Vec, Option, None, unwrap_or}
use Rattle.std.specs.List.{range_with_len}
use Rattle.std.specs.declared.alloc.Global.{Global}
use Rattle.blocks_file.specs.Denotes.{BlocksView, IsSmallColumn, narrowed}
use Rattle.prec_file.specs.Rests.{RestsView}
use Rattle.settings_file.specs.Settings.{SettingsView, settings_of}
use Rattle.shells.specs.Prelude.{PricesView, PricesFaultStands, SeriesView}
use Rattle.bench_report.specs.declared.bench_row.BenchRow.{BenchRow}
use Rattle.bench_report.specs.Prelude.{ReportedBlocks, reported_blocks, IsBenchTable, goes_way, way_tonnes}
use Rattle.engine_faults.specs.declared.engine_fault.EngineFault.{EngineFault}
use Rattle.engine_faults.specs.declared.engine_fault.EngineFault.TheVariants as engine
use Rattle.mine_inputs.specs.declared.columns_of_prices.PriceColumns.{PriceColumns}
use Rattle.mine_inputs.specs.declared.columns_of_prices.PriceColumns.TheVariants.{Plain, Treated}
use Rattle.mine_inputs.specs.Prelude.{PrecedenceBy, by_slopes, by_text, is_sloped, columns_for, columns_said}
use Rattle.mine_inputs.specs.Prelude.{column_after, column_list, place_beside, first_columns, rests_said, unused_by}
use Rattle.mine_inputs.specs.Prelude.{SettingsFails, ReadsBlocks, BlocksFails, ReadsPrec, PrecReadFails, SlopesRead}
use Rattle.mine_inputs.specs.Prelude.{ArePairsBy, PairsSaidFail}
use Rattle.shell_engines.specs.SeriesTexts.{factors_said, report_factor, IsSeriesRead}
use Rattle.report_engines.specs.declared.report_inputs.ReportColumns.{ReportColumns}
use Rattle.report_engines.specs.ReportTexts.{report_keys, ReportKeysKnown, report_columns}

-- The prices, the pairs, the factors and the factor of the report that were read, the blocks with their places and
-- columns, and the columns of the prices are those of the texts.
pub record IsReportRead (settings blocks : List ℕ) (precedence : PrecedenceBy) (prices : PricesView)
    (rests : RestsView) (factors : List ℕ) (model : BlocksView) (priced_by : PriceColumns) (factor : ℕ) : Type 0 where
  pub series : IsSeriesRead settings blocks precedence prices rests factors factor
  pub keys : ReportKeysKnown (is_sloped precedence) settings
  pub blocks_are : ReadsBlocks (report_columns (settings_of settings)) blocks model
  pub columns_are : priced_by ≡ columns_said (settings_of settings)

-- the blocks of a model in the shells of a series, with their tonnes after the columns of prices, and these worths
abbrev pub blocks_with : BlocksView → PriceColumns → SeriesView → List ℤ → ReportedBlocks
blocks_with m priced_by series worths = reported_blocks m series (place_beside priced_by) worths

-- there is an amount for each block of a model, and none is large beside 128 bits
pub record AreSmallAmounts (m : BlocksView) (amounts : List ℤ) : Type 0 where
  pub count : length amounts ≡ m.blocks
  pub small : (b : ℕ) → b < m.blocks → unsigned_abs (slice_index_or amounts b (pos 0)) ≤ 2 * 10 ^ 22

-- how many ways the columns of prices have
abbrev pub ways_among : PriceColumns → ℕ
ways_among (Plain revenue cost) = 0
ways_among (Treated ways mining) = length ways

-- the tonnes of a block where it goes this way, and nothing otherwise
abbrev pub tonnes_if : BlocksView → ℕ → ℕ → Option ℕ → ℕ → ℤ
tonnes_if m column b goes way = cond (goes_way goes way)
    (slice_index_or (slice_index_or m.columns column []) b (pos 0)) (pos 0)

-- which way a block goes, by a list of the ways of all
abbrev pub way_in : List (Option ℕ) → ℕ → Option ℕ
way_in ways b = slice_index_or ways b None

-- the same of a block whose way a list has
abbrev pub tonnes_going : BlocksView → ℕ → List (Option ℕ) → ℕ → ℕ → ℤ
tonnes_going m column ways way b = tonnes_if m column b (way_in ways b) way

-- a number for each row of the bench table of these blocks, whatever they are worth: the row's tonnes that go this way
abbrev pub IsWayColumn : BlocksView → PriceColumns → SeriesView → List (Option ℕ) → ℕ → List ℤ → Type 0
IsWayColumn m priced_by series ways way column = (worths : List ℤ) (rows : List BenchRow)
    → IsBenchTable (blocks_with m priced_by series worths) rows
    → column ≡ map (λ r. way_tonnes (blocks_with m priced_by series worths) (way_in ways) r way) rows

-- a list of such numbers for each of n ways
abbrev pub AreWayColumns : BlocksView → PriceColumns → SeriesView → List (Option ℕ) → ℕ → List (Vec ℤ Global) → Type 0
AreWayColumns m priced_by series ways n columns = (worths : List ℤ) (rows : List BenchRow)
    → IsBenchTable (blocks_with m priced_by series worths) rows
    → map (λ column. column.items) columns ≡ map
    (λ i. map (λ r. way_tonnes (blocks_with m priced_by series worths) (way_in ways) r i) rows) (range_with_len 0 n)

-- The prices are the first columns of a model, one more has tonnes, and no value of these is large.
pub record IsPricedModel (priced_by : PriceColumns) (m : BlocksView) (prices : PricesView) : Type 0 where
  pub columns : place_beside priced_by < length m.columns
  pub prices_are : prices ≡ first_columns priced_by m
  pub small : (i : ℕ) → i ≤ place_beside priced_by → IsSmallColumn m i

-- the columns that settings name, and their list
abbrev pub report_columns_by : SettingsView → ReportColumns
report_columns_by s = record { prices = columns_said s; tonnes = unwrap_or s.tonnes 0; region = s.region }

abbrev pub report_list : ReportColumns → List ℕ
report_list columns = column_list columns.prices ++ (columns.tonnes ∷ columns_for columns.region)

-- The settings, the columns, the factors and the factor of the report are those of the text of settings.
pub record IsSaid (sloped : Bool) (settings : List ℕ) (said : SettingsView) (columns : ReportColumns)
    (factors : List ℕ) (factor : ℕ) : Type 0 where
  pub keys : ReportKeysKnown sloped settings
  pub said_is : settings_of settings ≡ said
  pub columns_are : columns ≡ report_columns_by (settings_of settings)
  pub factors_are : factors ≡ factors_said settings
  pub factor_is : factor ≡ report_factor settings

-- why they aren't said
abbrev pub SaidFails : Bool → List ℕ → EngineFault → Type 0
SaidFails sloped settings (engine.Settings p) = SettingsFails (report_keys sloped) (unused_by sloped) settings p
SaidFails sloped settings engine.Memory = Unit {0}
SaidFails sloped settings engine.Device = Unit {0}
SaidFails sloped settings _ = ⊥

-- the blocks with the column of regions alone, which stands after those of prices and of tonnes
abbrev pub regions_among : SettingsView → PriceColumns → BlocksView → BlocksView
regions_among said priced_by m = narrowed (column_after (place_beside priced_by + 1) said.region) m

-- who rests on whom among n blocks, as a text of its own lists it or as the slopes of settings say, was read
abbrev pub ReadsRests : PrecedenceBy → SettingsView → PriceColumns → BlocksView → ℕ → RestsView → Type 0
ReadsRests (by_text precedence) said priced_by m n rests = ReadsPrec n precedence rests
ReadsRests by_slopes said priced_by m n rests = (rests.blocks ≡ m.blocks)
    × SlopesRead said (regions_among said priced_by m)
    × ArePairsBy (rests_said said (regions_among said priced_by m)) rests.pairs

-- why it isn't read
abbrev pub RestsReadFail : PrecedenceBy → SettingsView → PriceColumns → BlocksView → ℕ → EngineFault → Type 0
RestsReadFail (by_text precedence) said priced_by m n = PrecReadFails n precedence
RestsReadFail by_slopes said priced_by m n = PairsSaidFail said (regions_among said priced_by m)

-- why blocks with these columns, and their prices, aren't read
abbrev pub PricedModelFails : ReportColumns → List ℕ → EngineFault → Type 0
PricedModelFails columns text (engine.Blocks p) = BlocksFails (report_list columns) text p
PricedModelFails columns text (engine.Prices fault) = (m : BlocksView) × ReadsBlocks (report_list columns) text m
    × PricesFaultStands (first_columns columns.prices m) fault
PricedModelFails columns text engine.Memory = Unit {0}
PricedModelFails columns text engine.Device = Unit {0}
PricedModelFails columns text _ = ⊥
