-- The keys of settings, as they are written.
use Rattle.std.specs.Prelude.{ℕ, ◌||◌, Bool, List, codes, bytes_eq}
use Rattle.toml.specs.Data.{Members}
use Rattle.toml_values.specs.Documents.{all_named}
use Rattle.settings_file.specs.declared.keys.Key.{Key}
use Rattle.settings_file.specs.declared.keys.Key.TheVariants.{Revenue, Cost, Tonnes, Factors, Report, Offsets}
use Rattle.settings_file.specs.declared.keys.Key.TheVariants.{Processing, Mining, Slopes, Region, Up, Ways}

-- A key as it is written.
abbrev pub settings_key_name : Key → List ℕ
settings_key_name Revenue = codes "revenue"
settings_key_name Cost = codes "cost"
settings_key_name Tonnes = codes "tonnes"
settings_key_name Factors = codes "factors"
settings_key_name Report = codes "report"
settings_key_name Offsets = codes "offsets"
settings_key_name Processing = codes "processing"
settings_key_name Mining = codes "mining"
settings_key_name Slopes = codes "slopes"
settings_key_name Region = codes "region"
settings_key_name Up = codes "up"
settings_key_name Ways = codes "ways"

-- Whether a name is a key.
abbrev pub is_settings_key : List ℕ → Bool
is_settings_key name = bytes_eq name (settings_key_name Revenue) || bytes_eq name (settings_key_name Cost) || bytes_eq
    name (settings_key_name Tonnes) || bytes_eq name (settings_key_name Factors) || bytes_eq name
    (settings_key_name Report) || bytes_eq name (settings_key_name Offsets) || bytes_eq name
    (settings_key_name Processing) || bytes_eq name (settings_key_name Mining) || bytes_eq name
    (settings_key_name Slopes) || bytes_eq name (settings_key_name Region) || bytes_eq name (settings_key_name Up) ||
    bytes_eq name (settings_key_name Ways)

-- whether every name of a table is a key
abbrev pub all_settings_keys : Members → Bool
all_settings_keys ms = all_named is_settings_key ms
