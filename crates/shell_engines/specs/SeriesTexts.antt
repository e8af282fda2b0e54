-- The texts of a mine of which shells are drawn: settings that name its prices and the factors, blocks, and what says
-- which block rests on which.
use Rattle.std.specs.Prelude.{◌≡◌, ℕ, ◌-◌, Bool, List, [], ◌∷◌, length, slice_index_or, None, unwrap_or}
use Rattle.prec_file.specs.Rests.{RestsView}
use Rattle.settings_file.specs.declared.keys.Key.{Key}
use Rattle.settings_file.specs.declared.keys.Key.TheVariants.{Factors, Ways}
use Rattle.settings_file.specs.Settings.{SettingsView, settings_of, is_said, names_mill, first_missing}
use Rattle.shells.specs.Prices.{PricesView}
use Rattle.engine_faults.specs.declared.engine_fault.EngineFault.{EngineFault}
use Rattle.engine_faults.specs.declared.engine_fault.EngineFault.TheVariants as engine
use Rattle.mine_inputs.specs.Prelude.{PrecedenceBy, is_sloped, texts_by, keys_by, others_by, unused_by, SettingsFails}
use Rattle.mine_inputs.specs.Prelude.{MineFails, ArePricesRead}

-- the keys that a series of shells needs, where settings list slopes and where they don't
abbrev pub series_keys : Bool → SettingsView → List Key
series_keys sloped s = keys_by (is_said s Ways) (names_mill s) (others_by sloped (Factors ∷ []))

-- the settings have all of them
abbrev pub KeysKnown : Bool → List ℕ → Type 0
KeysKnown sloped settings = first_missing (series_keys sloped (settings_of settings)) (settings_of settings) ≡ None

-- the factors of the settings, in thousandths
abbrev pub factors_said : List ℕ → List ℕ
factors_said settings = unwrap_or (settings_of settings).factors []

-- the last of some factors
abbrev pub last_of : List ℕ → ℕ
last_of factors = slice_index_or factors (length factors - 1) 0

-- the factor of the report, in thousandths: the one that the settings name, or else the last of the factors
abbrev pub factor_by : SettingsView → ℕ
factor_by s = unwrap_or s.report (last_of (unwrap_or s.factors []))

-- the factor of the report by a text of settings, in thousandths
abbrev pub report_factor : List ℕ → ℕ
report_factor settings = factor_by (settings_of settings)

-- The prices, the pairs, the factors and the factor of the report that were read are those of the texts.
pub record IsSeriesRead (settings blocks : List ℕ) (precedence : PrecedenceBy) (prices : PricesView)
    (rests : RestsView) (factors : List ℕ) (factor : ℕ) : Type 0 where
  pub mine : ArePricesRead settings blocks precedence prices rests
  pub keys : KeysKnown (is_sloped precedence) settings
  pub factors_are : factors ≡ factors_said settings
  pub factor_is : factor ≡ report_factor settings

-- why they aren't read: each fault stands, and none before it does
abbrev pub SeriesMineFails : List ℕ → List ℕ → PrecedenceBy → EngineFault → Type 0
SeriesMineFails settings blocks precedence (engine.Settings p) = SettingsFails (series_keys (is_sloped precedence))
    (unused_by (is_sloped precedence)) settings p
SeriesMineFails settings blocks precedence engine.Memory = Unit {0}
SeriesMineFails settings blocks precedence engine.Device = Unit {0}
SeriesMineFails settings blocks precedence fault = KeysKnown (is_sloped precedence) settings
    × ((factor : ℕ) → MineFails (texts_by settings blocks precedence factor) fault)
