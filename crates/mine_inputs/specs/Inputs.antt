-- What reading each input of an engine gives, and when it answers a fault.
use Rattle.std.specs.Prelude.{◌≡◌, ℕ, List, [], length, Some, None, Ok}
use Rattle.prec_file.specs.Rests.{RestsView, ArePairsOf}
use Rattle.prec_file.specs.Records as prec
use Rattle.upit_file.specs.Records as upit
use Rattle.engine_faults.specs.declared.engine_fault.EngineFault.{EngineFault}
use Rattle.engine_faults.specs.declared.engine_fault.EngineFault.TheVariants as engine
use Rattle.blocks_file.specs.Records as blocks
use Rattle.blocks_file.specs.Denotes.{BlocksView}
use Rattle.settings_file.specs.Settings.{SettingsView, ReadsSettings, first_missing}
use Rattle.settings_file.specs.declared.keys.Key.{Key}
use Rattle.settings_file.specs.declared.settings_fault.SettingsFault.TheVariants as settings_fault
use Rattle.shells.specs.Prices.{PricesView, PricesFaultStands}
use Rattle.engine_faults.specs.declared.engine_fault.Problem.TheVariants as problem
use Rattle.counted_devices.specs.declared.whole_input.InputFault.{InputFault}
use Rattle.counted_devices.specs.declared.whole_input.InputFault.TheVariants as input
use Rattle.mine_inputs.specs.declared.columns_of_prices.PriceColumns.{PriceColumns}
use Rattle.mine_inputs.specs.Limits.{IsTooLong, IsWithinLimit}
use Rattle.mine_inputs.specs.PricedTexts.{price_keys, slope_keys, first_unused, column_list, first_columns, table_at}
use Rattle.mine_inputs.specs.PricedTexts.{PricesRead, columns_beside, columns_said, SettingsFaultStands, SettingsFails}
use Rattle.mine_inputs.specs.PricedTexts.{PricedBlocksFail, PricedBlocksFailBy, PricesFail}
use Rattle.mine_inputs.specs.BlockTexts.{BlocksFails, ReadsBlocks}
use Rattle.mine_inputs.specs.SlopedTexts.{SlopesFail, placing_keys, region_columns, sloped_keys, slopes_alone}
use Rattle.mine_inputs.specs.Mines.{ValuesRead, ValuesReadFor}
use Rattle.mine_inputs.specs.FaultStands.{PrecFails, ValuesFailFor}

-- what is answered where an input can't be read to its end: this fault where it is too long
abbrev pub unread_fault : InputFault → EngineFault → EngineFault
unread_fault input.Device too_long = engine.Device
unread_fault input.InputTooLong too_long = too_long
unread_fault input.NoMemory too_long = engine.Memory

-- the values are those of the text, for the blocks that it declares
abbrev pub ReadsUpit : List ℕ → upit.UpitView → Type 0
ReadsUpit text values = ValuesRead text (length values.values) × upit.DenotesValues (length values.values) text values

-- the values are those of the text, for n blocks
abbrev pub ReadsValues : ℕ → List ℕ → upit.UpitView → Type 0
ReadsValues n text values = ValuesReadFor text n × upit.DenotesValues n text values

abbrev pub ValuesReadFail : ℕ → List ℕ → EngineFault → Type 0
ValuesReadFail n text (engine.Upit p) = ValuesFailFor n text p
ValuesReadFail n text engine.Memory = Unit {0}
ValuesReadFail n text engine.Device = Unit {0}
ValuesReadFail n text _ = ⊥

-- the pairs are those of the text
abbrev pub ReadsPrec : ℕ → List ℕ → RestsView → Type 0
ReadsPrec n text rests = IsWithinLimit text × (prec.fault_of n text ≡ None) × (rests.blocks ≡ n)
    × ArePairsOf (prec.pairs_of_text text) rests.pairs

abbrev pub PrecReadFails : ℕ → List ℕ → EngineFault → Type 0
PrecReadFails n text (engine.Prec p) = PrecFails n text p
PrecReadFails n text engine.Memory = Unit {0}
PrecReadFails n text engine.Device = Unit {0}
PrecReadFails n text _ = ⊥

-- the settings are those of the text, and say nothing at the keys of which no use is made
abbrev pub ReadsSettingsText : List Key → List ℕ → SettingsView → Type 0
ReadsSettingsText unused text said = IsWithinLimit text × ReadsSettings text (Ok said)
    × (first_unused unused said ≡ None)

-- a fault of the text of settings, a key that isn't used, want of memory or a failing device; that a key is missing is
-- told later
abbrev pub SettingsReadFails : List Key → List ℕ → EngineFault → Type 0
SettingsReadFails unused text (engine.Settings problem.InputTooLong) = IsTooLong text
SettingsReadFails unused text (engine.Settings (problem.Fault fault)) = IsWithinLimit text
    × SettingsFaultStands (λ s. []) unused text fault
SettingsReadFails unused text engine.Memory = Unit {0}
SettingsReadFails unused text engine.Device = Unit {0}
SettingsReadFails unused text _ = ⊥

-- of these keys this is the first at which settings say nothing
abbrev pub IsMissing : List Key → SettingsView → EngineFault → Type 0
IsMissing needed said fault = (key : Key) × (fault ≡ engine.Settings (problem.Fault (settings_fault.Missing key)))
    × (first_missing needed said ≡ Some key)

-- the prices are those of the text of blocks, in these columns
pub record ReadsPrices (columns : PriceColumns) (text : List ℕ) (table : PricesView) : Type 0 where
  pub within : IsWithinLimit text
  pub read : blocks.blocks_fault_of (column_list columns) text ≡ None
  pub is : table ≡ table_at columns text

abbrev pub PricesReadFail : PriceColumns → List ℕ → EngineFault → Type 0
PricesReadFail columns text (engine.Blocks p) = BlocksFails (column_list columns) text p
PricesReadFail columns text (engine.Prices fault) = IsWithinLimit text
    × (blocks.blocks_fault_of (column_list columns) text ≡ None) × PricesFaultStands (table_at columns text) fault
PricesReadFail columns text engine.Memory = Unit {0}
PricesReadFail columns text engine.Device = Unit {0}
PricesReadFail columns text _ = ⊥

-- why the first columns of a model are no prices: want of memory, or they are no table
abbrev pub ModelPricesFail : PriceColumns → BlocksView → EngineFault → Type 0
ModelPricesFail columns m (engine.Prices fault) = PricesFaultStands (first_columns columns m) fault
ModelPricesFail columns m engine.Memory = Unit {0}
ModelPricesFail columns m _ = ⊥

-- why the texts of a mine of prices aren't read
abbrev pub PricedMineFails : List ℕ → List ℕ → List ℕ → EngineFault → Type 0
PricedMineFails settings text precedence (engine.Settings p) = SettingsFails price_keys slope_keys settings p
PricedMineFails settings text precedence (engine.Blocks p) = PricedBlocksFail settings text p
PricedMineFails settings text precedence (engine.Prices fault) = PricesFail settings text fault
PricedMineFails settings text precedence (engine.Prec p) = (n : ℕ) × PricesRead settings text n
    × PrecFails n precedence p
PricedMineFails settings text precedence engine.Memory = Unit {0}
PricedMineFails settings text precedence engine.Device = Unit {0}
PricedMineFails settings text precedence _ = ⊥

-- What was read of the texts of a mine whose settings list slopes: the settings, which have all keys that they need,
-- and the blocks with the columns of prices and of regions.
pub record AreSlopedTexts (settings text : List ℕ) (said : SettingsView) (columns : PriceColumns) (m : BlocksView) :
    Type 0 where
  pub settings_read : ReadsSettingsText [] settings said
  pub whole : first_missing (sloped_keys said) said ≡ None
  pub are : columns ≡ columns_said said
  pub blocks_read : ReadsBlocks (columns_beside columns (region_columns said)) text m

-- why slopes give no pairs of blocks: want of memory, or a fault of theirs
abbrev pub PairsSaidFail : SettingsView → BlocksView → EngineFault → Type 0
PairsSaidFail said m (engine.Slope p) = SlopesFail said m p
PairsSaidFail said m engine.Memory = Unit {0}
PairsSaidFail said m _ = ⊥

-- What was read of settings that list slopes, and of the blocks with the column of regions.
pub record ArePlacedTexts (settings text : List ℕ) (said : SettingsView) (m : BlocksView) : Type 0 where
  pub settings_read : ReadsSettingsText [] settings said
  pub whole : first_missing (placing_keys said) said ≡ None
  pub blocks_read : ReadsBlocks (region_columns said) text m

-- why settings that list slopes, or the blocks beside them, aren't read
abbrev pub PlacesFail : List ℕ → List ℕ → EngineFault → Type 0
PlacesFail settings text (engine.Settings p) = SettingsFails placing_keys [] settings p
PlacesFail settings text (engine.Blocks p) = PricedBlocksFailBy slopes_alone settings text p
PlacesFail settings text engine.Memory = Unit {0}
PlacesFail settings text engine.Device = Unit {0}
PlacesFail settings text _ = ⊥

-- What was read of the texts of a mine of places and values: the settings, the blocks, and as many values.
pub record AreValuedTexts (settings text values : List ℕ) (said : SettingsView) (m : BlocksView)
    (given : upit.UpitView) : Type 0 where
  pub placed : ArePlacedTexts settings text said m
  pub valued : ReadsValues m.blocks values given
