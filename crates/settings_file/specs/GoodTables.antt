-- What only the functions of this crate say to one another: what is decided before memory is asked for, and what is
-- wrong with a table.
use Rattle.std.specs.Prelude.{◌≡◌, true, IsOk}
use Rattle.toml.specs.Data.{Members}
use Rattle.settings_file.specs.declared.keys.Key.TheVariants.{Revenue, Tonnes}
use Rattle.settings_file.specs.declared.settings_fault.SettingsFault.{SettingsFault}
use Rattle.settings_file.specs.declared.settings_fault.SettingsFault.TheVariants.{NotToml, Unused, Missing}
use Rattle.settings_file.specs.Keys.{all_settings_keys}
use Rattle.toml_values.specs.Numbers.{whole_value_within}
use Rattle.settings_file.specs.Settings.{optional_at, cost_in}

-- Every name of the table is a key, and the columns of revenue, cost and tonnes are not bad, as far as they are named.
pub record IsGoodUpToFactors (ms : Members) : Type 0 where
  pub keys : all_settings_keys ms ≡ true
  pub revenue : IsOk (optional_at Revenue (whole_value_within 65535) ms)
  pub cost : IsOk (cost_in ms)
  pub tonnes : IsOk (optional_at Tonnes (whole_value_within 65535) ms)

-- a fault that a table of a document can have, or want of memory
abbrev pub IsOfSettingsTable : SettingsFault → Type 0
IsOfSettingsTable NotToml = ⊥
IsOfSettingsTable (Unused key) = ⊥
IsOfSettingsTable (Missing key) = ⊥
IsOfSettingsTable _ = Unit {0}
